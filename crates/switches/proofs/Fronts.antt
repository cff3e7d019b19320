-- A loop that writes a function of the index to the front of a list.
use Rattle.std.proofs.Common.{◌≡◌, ℕ, ◌+◌, ◌<◌, ◌≤◌, List, [], ◌∷◌, ◌++◌, map, length, get_or, drop, set, sym, ap, ◌∙◌, arith, append-nil}
use Rattle.std.specs.List.{range_with_len}
use Rattle.std.proofs.lemmas.List.FromFn.{length-map-range_with_len, map-range_with_len_more}
use Rattle.std.proofs.lemmas.List.{append_assoc, drop_all, drop_more, set_at}

module _ {X : Type 0} (f : ℕ → X) (before : List X) where
  -- the function of each of the first indices, and the list unchanged behind
  abbrev pub fronted : ℕ → List X
  fronted i = map f (range_with_len 0 i) ++ drop i before

  pub fronted_more : (i : ℕ) (list : List X) (d : X) → i < length before → list ≡ fronted i → set list i (f i) ≡ fronted (i + 1)
  fronted_more i list d l e =
      ap (λ ys. set ys i (f i)) (e ∙ ap (λ ys. map f (range_with_len 0 i) ++ ys) (drop_more before i d l))
      ∙ set_at (map f (range_with_len 0 i)) (get_or before i d) (drop (i + 1) before) (f i) i (length-map-range_with_len f 0 i)
      ∙ sym (ap (λ ys. ys ++ drop (i + 1) before) (map-range_with_len_more f 0 i i (omega arith)) ∙ append_assoc (map f (range_with_len 0 i)) (f i ∷ []) (drop (i + 1) before))

  pub fronted_all : (i : ℕ) → length before ≤ i → fronted i ≡ map f (range_with_len 0 i)
  fronted_all i l = ap (λ ys. map f (range_with_len 0 i) ++ ys) (drop_all i before l) ∙ append-nil (map f (range_with_len 0 i))
