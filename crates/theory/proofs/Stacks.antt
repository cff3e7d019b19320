-- A list of codes, as it is written.
use Rattle.std.proofs.Common.{◌≡◌, ℕ, ◌+◌, ◌<◌, ◌≤◌, List, [], ◌∷◌, ◌++◌, map, length, get_or, take, drop, set, sym, refl, ap, ◌∙◌, arith}
use Rattle.std.proofs.lemmas.List.{take_more_set, map_more, drop-set-lt, drop-drop, take_all, take-append-drop}

-- A code and then the codes of the first records stand at the front of a list, which is unchanged behind.
module _ {R : Type 0} (coded : R → ℕ) (xs : List R) (first : ℕ) (before : List ℕ) where
  pub record Written (i : ℕ) (list : List ℕ) : Type 0 where
    pub front : take (i + 1) list ≡ first ∷ map coded (take i xs)
    pub behind : drop (i + 1) list ≡ drop (i + 1) before

  pub written_more : (i : ℕ) (list : List ℕ) (x : R) → i < length xs → x ≡ get_or xs i x → i + 1 < length list → Written i list
      → Written (i + 1) (set list (i + 1) (coded x))
  written_more i list x l is room w =
      record {
        front =
            take_more_set list (i + 1) (coded x) room
            ∙ ap (λ ys. ys ++ (coded x ∷ [])) w.front
            ∙ ap (λ ys. first ∷ ys) (sym (map_more coded xs i x l ∙ ap (λ y. map coded (take i xs) ++ (coded y ∷ [])) (sym is)));
        behind =
            drop-set-lt (i + 1 + 1) list (i + 1) (coded x) (omega arith)
            ∙ sym (drop-drop 1 (i + 1) list)
            ∙ ap (drop 1) w.behind
            ∙ drop-drop 1 (i + 1) before;
      }

  written_all : (i : ℕ) (list : List ℕ) → length xs ≡ i → Written i list
      → list ≡ (first ∷ map coded xs) ++ drop (length xs + 1) before
  written_all i list e w =
      sym (take-append-drop (i + 1) list)
      ∙ ap (λ ys. ys ++ drop (i + 1) list) (w.front ∙ ap (λ ys. first ∷ map coded ys) (take_all i xs (omega arith)))
      ∙ ap (λ ys. (first ∷ map coded xs) ++ ys) (w.behind ∙ ap (λ n. drop (n + 1) before) (sym e))

-- the loop begins with the first code written
module _ {R : Type 0} (coded : R → ℕ) (xs : List R) (first : ℕ) (before : List ℕ) where
  pub written_first : 0 < length before → Written coded xs first (set before 0 first) 0 (set before 0 first)
  written_first l = record { front = take_more_set before 0 first l; behind = refl }

  pub written_over : (i : ℕ) (list : List ℕ) → length xs ≤ i → i ≤ length xs → Written coded xs first (set before 0 first) i list
      → list ≡ (first ∷ map coded xs) ++ drop (length xs + 1) before
  written_over i list l u w =
      written_all coded xs first (set before 0 first) i list (omega arith) w
      ∙ ap (λ ys. (first ∷ map coded xs) ++ ys) (drop-set-lt (length xs + 1) before 0 first (omega arith))
