-- The newest literals of a pair are the newest of each side.
use Rattle.std.proofs.Common.{◌≡◌, ℕ, ◌+◌, ◌-◌, ◌≤◌, count_by, List, ◌++◌, map, length, take, drop, Ok, sym, refl, ap, ◌∙◌, arith}
use Rattle.std.proofs.lemmas.List.{drop-map, length-drop, length-map, take-append-drop, take_rest}
use Rattle.std.proofs.lemmas.List.Recursion.{is_count_by}
use Rattle.std.proofs.lemmas.Bool.Decides.{nat_tests}
use Rattle.theory.proofs.Retreats.{different_retreated, retreated_front, retreat_went}
use Rattle.theory.specs.Calls.{retreat_answer, retreated}
use Rattle.theory.specs.declared.Sizes.{Sizes}
use Rattle.theory.specs.declared.stack.Literal.{Literal}
use Rattle.theory.specs.Meaning.{Meaning}
use Rattle.pair.proofs.Sides.{both_lengths, left_of_append, right_of_append}
use Rattle.pair.proofs.Together.{together_after}
use Rattle.pair.specs.Pairs.{is_left, left_of, right_of, Together}

-- So many of the newest literals are the left's.
pub record Newest (cut : ℕ) (codes : List ℕ) (count n : ℕ) : Type 0 where
  pub within : count ≤ length codes
  pub are : n ≡ length (left_of cut (drop (length codes - count) codes))

counted : (cut : ℕ) (items : List Literal) → length (left_of cut (map (λ c. c.code) items)) ≡ count_by (λ c. is_left cut c.code) items
counted cut = is_count_by (λ items. length (left_of cut (map (λ c. c.code) items))) (λ c. is_left cut c.code) refl (λ x items. grind arith)

pub newest : (cut : ℕ) (items : List Literal) (count : ℕ) {n : ℕ} → count ≤ length items
    → n ≡ count_by (λ c. is_left cut c.code) (take (length items - (length items - count)) (drop (length items - count) items))
    → Newest cut (map (λ c. c.code) items) count n
newest cut items count within are =
    record {
      within = simp length-map within;
      are = are ∙ sym (counted cut (take (length items - (length items - count)) (drop (length items - count) items))) ∙ simp (take_rest, length-map, drop-map);
    }

module _ {l r : Meaning} {lefts rights codes : List ℕ} {places : ℕ} {cut sizes : Sizes} (t : Together l r lefts rights codes places cut sizes)
    {count n : ℕ} (w : Newest l.atoms codes count n) where
  abbrev older : List ℕ
  older = take (length codes - count) codes

  abbrev new : List ℕ
  new = drop (length codes - count) codes

  pub retreated_older : retreated codes count ≡ older
  retreated_older = let within = w.within in grind (arith, nat_tests)

  rest : count ≡ n + length (right_of l.atoms new)
  rest = omega (arith, w.are, w.within, both_lengths l.atoms new, length-drop (length codes - count) codes)

  pub few_lefts : n ≤ count
  few_lefts = omega (arith, rest)

  left_parts : lefts ≡ left_of l.atoms older ++ left_of l.atoms new
  left_parts = rw (t.left_stack, ← left_of_append) (ap (left_of l.atoms) (sym (take-append-drop (length codes - count) codes)))

  right_parts : rights ≡ right_of l.atoms older ++ right_of l.atoms new
  right_parts = rw (t.right_stack, ← right_of_append) (ap (right_of l.atoms) (sym (take-append-drop (length codes - count) codes)))

  pub left_went : retreat_answer lefts n ≡ Ok tt
  left_went = rw left_parts (retreat_went (left_of l.atoms older) (left_of l.atoms new) n w.are)

  pub right_went : retreat_answer rights (count - n) ≡ Ok tt
  right_went = rw right_parts (retreat_went (right_of l.atoms older) (right_of l.atoms new) (count - n) (omega (arith, rest)))

  -- what is left of each side is its own of what is left
  pub dropped_together : {l' r' : Meaning} {lefts' rights' codes' : List ℕ} {places' : ℕ} → l' ≡ l → r' ≡ r → places' ≡ places
      → lefts' ≡ retreated lefts n → rights' ≡ retreated rights (count - n) → codes' ≡ retreated codes count
      → Together l' r' lefts' rights' codes' places' cut sizes
  dropped_together el er ep ls rs cs =
      together_after t el er ep
      (ls ∙ rw left_parts (retreated_front (left_of l.atoms older) (left_of l.atoms new) n w.are) ∙ ap (left_of l.atoms) (sym (cs ∙ retreated_older)))
      (rs ∙ rw right_parts (retreated_front (right_of l.atoms older) (right_of l.atoms new) (count - n) (omega (arith, rest))) ∙ ap (right_of l.atoms) (sym (cs ∙ retreated_older)))
      (rw cs (different_retreated _ codes count t.apart))
