-- What `set` of a side does, read as what it does to the pair.
use Rattle.std.proofs.Common.{◌≡◌, ℕ, ◌+◌, ◌-◌, ◌*◌, ◌<◌, ◌≤◌, List, [], ◌∷◌, ◌++◌, length, take, drop, Ok, Some, None, Err, Option, Result, sym, refl, ap, ◌∙◌, subst, arith, MatchOption}
use Rattle.std.proofs.lemmas.List.{length-map, take_at, drop_at}
use Rattle.std.proofs.lemmas.Bool.{cond-true, cond-false, le-ltb, lt-ltb}
use Rattle.std.proofs.lemmas.Bool.Decides.{nat_tests}
use Rattle.std.specs.List.{AllByRecursion}
use Rattle.refusals.specs.Grounds.{clash_count}
use Rattle.refusals.specs.declared.Refusal.{Refusal}
use Rattle.theory.proofs.Grounds.{set_apart}
use Rattle.theory.specs.Calls.{set_ground, ground_answer, Conflict, Gained, Clashed, NotLookedAt, SetBy, Picked}
use Rattle.theory.specs.declared.Sizes.{Sizes}
use Rattle.theory.specs.Meaning.{Meaning, WorldOf, atom_of, names}
use Rattle.pair.proofs.Sides.{left_of_more, right_of_same, right_of_more, left_of_same, names_left, names_right, picked_left, picked_right, picked_hold, left_of_below, left_of_all, right_of_raised}
use Rattle.pair.proofs.Together.{fits_if_any, together_after}
use Rattle.pair.specs.Worlds.{left_world, right_world}
use Rattle.pair.specs.Pairs.{is_left, left_of, right_of, raised, pair_conflict, pair_meaning, raised_front, shown_if, shown_pair, RaisedSetBy, Together}

-- where there is such an atom and the list is long enough, it counts only whether the atom is set
same_ground : (n m : ℕ) (xs ys : List ℕ) (code code' places : ℕ) → atom_of code < n → atom_of code' < m → n ≤ places → m ≤ places
    → names xs (atom_of code) ≡ names ys (atom_of code') → set_ground n xs code places ≡ set_ground m ys code' places
same_ground n m xs ys code code' places b b' p p' e = grind (arith, nat_tests)

-- A side took the literal: the sides hold what is set and the literal, and `set` of the pair did what it should.
pub record Grown (l r : Meaning) (codes : List ℕ) (places : ℕ) (cut sizes : Sizes) (code : ℕ) (list : List ℕ)
    (l' r' : Meaning) (lefts' rights' list' : List ℕ) : Type 0 where
  pub together : Together l' r' lefts' rights' (codes ++ (code ∷ [])) places cut sizes
  pub gained : Gained (shown_pair places l r) codes code list (codes ++ (code ∷ [])) list'

-- the literal is of an atom that the pair shows, and the list is long enough
module _ {l r : Meaning} {lefts rights codes : List ℕ} {places : ℕ} {cut sizes : Sizes} (t : Together l r lefts rights codes places cut sizes)
    (code : ℕ) (list : List ℕ) (below : atom_of code < sizes.atoms) (long : sizes.atoms ≤ length list) where
  abbrev n : ℕ
  n = l.atoms

  shown : shown_pair places l r ≡ pair_meaning l r
  shown = let are = ap (λ (s : Sizes). s.atoms) t.sizes_are in ap (λ b. shown_if b l r) (fits_if_any places l r (omega arith))

  sum : sizes.atoms ≡ l.atoms + r.atoms
  sum = ap (λ s. s.atoms) t.sizes_are ∙ ap (λ (m : Meaning). m.atoms) shown

  cut_atoms : cut.atoms ≡ l.atoms
  cut_atoms = ap (λ s. s.atoms) t.cut_is

  grown : {l' r' : Meaning} {lefts' rights' list' : List ℕ} → l' ≡ l → r' ≡ r → lefts' ≡ left_of n (codes ++ (code ∷ [])) → rights' ≡ right_of n (codes ++ (code ∷ []))
      → set_ground (l.atoms + r.atoms) codes code (length list) ≡ None → list' ≡ list → Grown l r codes places cut sizes code list l' r' lefts' rights' list'
  grown el er ls rs reason same =
      let shows : set_ground (shown_pair places l r).atoms codes code (length list) ≡ None = rw shown reason in
      record {
        together = together_after t el er refl ls rs (set_apart (shown_pair places l r).atoms codes code (length list) t.apart (ap ground_answer shows));
        gained = record { reason = shows; grown = refl; list_same = same };
      }

  -- a literal of the left
  module _ (h : code < 2 * cut.atoms) where
    is_lefts : code < 2 * n
    is_lefts = omega (arith, cut_atoms)

    ground_left : set_ground (l.atoms + r.atoms) codes code (length list) ≡ set_ground l.atoms lefts code (length list)
    ground_left =
        same_ground (l.atoms + r.atoms) l.atoms codes lefts code code (length list)
        (omega (arith, sum)) (omega (arith, is_lefts)) (omega (arith, sum)) (omega (arith, sum)) (rw t.left_stack (names_left n codes code is_lefts))

    conflict_left : (conflict : List ℕ) → Conflict l lefts code conflict → Conflict (pair_meaning l r) codes code conflict
    conflict_left conflict k =
        let picked = subst (Picked k.others) t.left_stack k.in_order in
        let all : AllByRecursion (λ c. c < 2 * n) conflict = rw k.begins (is_lefts, picked_hold (λ c. c < 2 * n) picked (left_of_below n codes)) in
        record {
          others = k.others;
          begins = k.begins;
          in_order = picked_left n codes k.others picked;
          no_world = λ world w. k.no_world (take l.variables world) (subst (λ cs. WorldOf l cs (take l.variables world)) (left_of_all n conflict all) (left_world l r conflict world w));
        }

    module _ (conflict lefts' list' : List ℕ) (why : Refusal) where
      pub refused_left : (o : Option ℕ) → MatchOption o (NotLookedAt l lefts code list why lefts' list') (λ count. Clashed l lefts conflict code list count lefts' list')
          → MatchOption o (NotLookedAt (pair_meaning l r) codes code list why codes list') (λ count. Clashed (pair_meaning l r) codes conflict code list count codes list')
      refused_left None k = record { reason = ground_left ∙ k.reason; stack_same = refl; list_same = k.list_same }
      refused_left (Some count) k =
          record {
            reason = ground_left ∙ k.reason;
            stack_same = refl;
            counted = k.counted;
            written = k.written;
            true_conflict = conflict_left conflict k.true_conflict;
          }

    pub left_refused : (lconf rconf : ℕ → List ℕ) (lefts' list' : List ℕ) {why : Refusal} {answer : Result (Unit {0}) Refusal} → answer ≡ Err why
        → SetBy l lefts (lconf code) code list (Err why) lefts' list'
        → SetBy (shown_pair places l r) codes (pair_conflict n lconf rconf code) code list answer codes list'
    left_refused lconf rconf lefts' list' {why} is s =
        let of_left : pair_conflict n lconf rconf code ≡ lconf code = cond-true (is_left n code) _ _ (lt-ltb code (2 * n) is_lefts) in
        rw (is, shown, of_left) (refused_left (lconf code) lefts' list' why (clash_count why) s)

    pub left_gained : {l' : Meaning} {lefts' list' : List ℕ} → l' ≡ l → Gained l lefts code list lefts' list'
        → Grown l r codes places cut sizes code list l' r lefts' rights list'
    left_gained same k =
        grown same refl (k.grown ∙ rw t.left_stack (sym (left_of_more n codes code is_lefts))) (t.right_stack ∙ sym (right_of_same n codes code is_lefts))
        (ground_left ∙ k.reason) k.list_same

  -- a literal of the right
  module _ (h : 2 * cut.atoms ≤ code) where
    is_rights : 2 * n ≤ code
    is_rights = omega (arith, cut_atoms)

    ground_right : set_ground (l.atoms + r.atoms) codes code (length list) ≡ set_ground r.atoms rights (code - 2 * n) (length list)
    ground_right =
        same_ground (l.atoms + r.atoms) r.atoms codes rights code (code - 2 * n) (length list)
        (omega (arith, sum)) (omega (arith, sum, is_rights)) (omega (arith, sum)) (omega (arith, sum)) (rw t.right_stack (names_right n codes code is_rights))

    conflict_right : (conflict : List ℕ) → Conflict r rights (code - 2 * n) conflict → Conflict (pair_meaning l r) codes code (raised (2 * n) conflict)
    conflict_right conflict k =
        let back : code - 2 * n + 2 * n ≡ code = omega (arith, is_rights) in
        record {
          others = raised (2 * n) k.others;
          begins = ap (raised (2 * n)) k.begins ∙ ap (λ c. c ∷ raised (2 * n) k.others) back;
          in_order = picked_right n codes k.others (subst (Picked k.others) t.right_stack k.in_order);
          no_world =
              λ world w.
              k.no_world (drop l.variables world) (subst (λ cs. WorldOf r cs (drop l.variables world)) (right_of_raised n conflict) (right_world l r (raised (2 * n) conflict) world w));
        }

    module _ (conflict rights' written list' : List ℕ) (why : Refusal) where
      pub refused_right : (o : Option ℕ) → MatchOption o (NotLookedAt r rights (code - 2 * n) list why rights' written) (λ count. Clashed r rights conflict (code - 2 * n) list count rights' written)
          → list' ≡ raised_front (2 * n) o written
          → MatchOption o (NotLookedAt (pair_meaning l r) codes code list why codes list') (λ count. Clashed (pair_meaning l r) codes (raised (2 * n) conflict) code list count codes list')
      refused_right None k e = record { reason = ground_right ∙ k.reason; stack_same = refl; list_same = e ∙ k.list_same }
      refused_right (Some count) k e =
          let rest = drop (length conflict) list in
          let front : take count written ≡ conflict = ap (take count) k.written ∙ take_at conflict rest count (sym k.counted) in
          let back : drop count written ≡ rest = ap (drop count) k.written ∙ drop_at conflict rest count (sym k.counted) in
          let long_as : length (raised (2 * n) conflict) ≡ length conflict = length-map conflict (λ c. c + 2 * n) in
          record {
            reason = ground_right ∙ k.reason;
            stack_same = refl;
            counted = k.counted ∙ sym long_as;
            written = e ∙ rw (front, back, long_as);
            true_conflict = conflict_right conflict k.true_conflict;
          }

    pub right_refused : (lconf rconf : ℕ → List ℕ) (rights' list' : List ℕ) {why : Refusal} {answer : Result (Unit {0}) Refusal} → answer ≡ Err why
        → RaisedSetBy (2 * cut.atoms) r rights rconf code list (Err why) rights' list'
        → SetBy (shown_pair places l r) codes (pair_conflict n lconf rconf code) code list answer codes list'
    right_refused lconf rconf rights' list' {why} is s =
        let of_right : pair_conflict n lconf rconf code ≡ raised (2 * n) (rconf (code - 2 * n)) = cond-false (is_left n code) _ _ (le-ltb code (2 * n) is_rights) in
        let s' = subst (λ k. RaisedSetBy (2 * k) r rights rconf code list (Err why) rights' list') cut_atoms s in
        rw (is, shown, of_right) (refused_right (rconf (code - 2 * n)) rights' s'.0 list' why (clash_count why) s'.1.0 s'.1.1)

    pub right_gained : (rconf : ℕ → List ℕ) {r' : Meaning} {rights' list' : List ℕ} → r' ≡ r
        → RaisedSetBy (2 * cut.atoms) r rights rconf code list (Ok tt) rights' list' → Grown l r codes places cut sizes code list l r' lefts rights' list'
    right_gained rconf {rights' = rights'} same s =
        let k = subst (λ k. Gained r rights (code - 2 * k) list rights' s.0) cut_atoms s.1.0 in
        grown refl same (t.left_stack ∙ sym (left_of_same n codes code is_rights)) (k.grown ∙ rw t.right_stack (sym (right_of_more n codes code is_rights)))
        (ground_right ∙ k.reason) (s.1.1 ∙ k.list_same)
