-- Clauses at places in one list of literals, as one more is put on the end.
use Rattle.std.proofs.Common.{◌≡◌, ℕ, zero, suc, ◌+◌, ◌-◌, ◌<◌, ◌≤◌, true, false, List, [], ◌∷◌, ◌++◌, length, get_or, take, drop, None, sym, refl, ap, ◌∙◌, arith}
use Rattle.std.proofs.lemmas.List.{length-append, length-drop, drop-append-le, take-append-le, drop_at, take_all, map_push}
use Rattle.std.proofs.lemmas.Bool.Decides.{nat_tests}
use Rattle.steps.specs.Calls.{are_atoms_below, atom_twice, literals_in, post_ground}
use Rattle.steps.specs.Clauses.{Clause}
use Rattle.clauses.specs.Placed.{Placed, clause_at, clauses_at, within}
use Rattle.std.specs.declared.ops.Range.{Range}

clause_at_append : (literals more : List ℕ) (p : Range ℕ) → p.start ≤ p.end → p.end ≤ length literals → clause_at (literals ++ more) p ≡ clause_at literals p
clause_at_append literals more p b e =
    ap (take (p.end - p.start)) (drop-append-le p.start literals more (omega arith))
    ∙ take-append-le (p.end - p.start) (drop p.start literals) more (omega (arith, length-drop p.start literals))

clauses_at_append : (literals more : List ℕ) (places : List (Range ℕ)) → within (length literals) places ≡ true → clauses_at (literals ++ more) places ≡ clauses_at literals places
clauses_at_append literals more [] w = refl
clauses_at_append literals more (p ∷ places) w =
    let h = clause_at_append literals more p in
    let t = clauses_at_append literals more places in
    grind (arith, nat_tests)

clause_at_new : (literals clause : List ℕ) (p : Range ℕ) → p.start ≡ length literals → p.end ≡ length literals + length clause → clause_at (literals ++ clause) p ≡ clause
clause_at_new literals clause p b e =
    ap (take (p.end - p.start)) (drop_at literals clause p.start (sym b))
    ∙ take_all (p.end - p.start) clause (omega arith)

within_push : (n m : ℕ) (places : List (Range ℕ)) (p : Range ℕ) → within n places ≡ true → n ≤ m → p.start ≤ p.end → p.end ≤ m → within m (places ++ (p ∷ [])) ≡ true
within_push n m [] p w l b e = grind (arith, nat_tests)
within_push n m (q ∷ places) p w l b e =
    let i : within n places ≡ true → within m (places ++ (p ∷ [])) ≡ true = λ h. within_push n m places p h l b e in
    grind (arith, nat_tests)

literals_push : (clauses : List Clause) (clause : Clause) → literals_in (clauses ++ (clause ∷ [])) ≡ literals_in clauses + length clause
literals_push [] clause = omega arith
literals_push (k ∷ clauses) clause = omega (arith, literals_push clauses clause)

-- the place at an index, read at any default
pub within_item : (n : ℕ) (places : List (Range ℕ)) (i : ℕ) (p : Range ℕ) → within n places ≡ true → i < length places → p ≡ get_or places i p
    → (p.start ≤ p.end) × (p.end ≤ n)
within_item n [] i p w h is = absurd (omega arith)
within_item n (q ∷ places) zero p w h is = rw is (grind (arith, nat_tests))
within_item n (q ∷ places) (suc i) p w h is = within_item n places i p (grind (arith, nat_tests)) (omega arith) is

-- one more clause
module _ {capacity clause_capacity : ℕ} {literals : List ℕ} {places : List (Range ℕ)} (placed : Placed capacity clause_capacity literals places)
    (clause : List ℕ) {start : ℕ} (starts : start ≡ length literals) where
  pub clauses_push : clauses_at (literals ++ clause) (places ++ (record { start = start; end = start + length clause } ∷ [])) ≡ clauses_at literals places ++ (clause ∷ [])
  clauses_push =
      let p : Range ℕ = record { start = start; end = start + length clause } in
      let a = map_push (clause_at (literals ++ clause)) places p in
      let b = clauses_at_append literals clause places placed.inside in
      let d = clause_at_new literals clause p starts (omega arith) in
      cc

  pub placed_push : {capacity' clause_capacity' : ℕ} → capacity ≤ capacity' → clause_capacity ≤ clause_capacity'
      → Placed capacity' clause_capacity' (literals ++ clause) (places ++ (record { start = start; end = start + length clause } ∷ []))
  placed_push r k =
      let long = length-append literals clause in record {
        room = omega (arith, placed.room);
        clause_room = omega (arith, placed.clause_room);
        inside = within_push (length literals) (length (literals ++ clause)) places _ placed.inside (omega arith) (omega arith) (omega arith);
        total = ap literals_in clauses_push ∙ literals_push (clauses_at literals places) clause ∙ ap (λ n. n + length clause) placed.total ∙ sym long;
      }

-- a clause over known atoms, each named once, is posted where there is room
pub ground_none : (atoms : ℕ) (clauses : List Clause) (clause : Clause) → are_atoms_below atoms clause ≡ true → atom_twice clause ≡ false
    → length clauses < 256 → literals_in clauses + length clause ≤ 2048 → post_ground atoms clauses clause ≡ None
ground_none atoms clauses clause below once k l = grind (arith, nat_tests)
