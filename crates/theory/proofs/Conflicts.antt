-- A clash whose conflict is the new literal and all set literals.
use Rattle.std.proofs.Common.{◌≡◌, ℕ, ◌+◌, List, [], ◌∷◌, ◌++◌, map, length, drop, Ok, refl, ap, ◌∙◌, arith}
use Rattle.std.proofs.lemmas.List.{length-map}
use Rattle.theory.proofs.Grounds.{set_accepted}
use Rattle.theory.specs.Calls.{set_ground, ground_answer, Picked, none, keep, Clashed}
use Rattle.theory.specs.Meaning.{Meaning, NoWorld}

pub picked_all : {X : Type 0} (xs : List X) → Picked xs xs
picked_all [] = none
picked_all (x ∷ xs) = keep (picked_all xs)

-- `ys` are the records after the call, `count` and `list'` what `write_codes` answers and writes
pub set_clashed : {R : Type 0} (coded : R → ℕ) (m : Meaning) (xs ys : List R) (code : ℕ) (list : List ℕ) (count : ℕ) (list' : List ℕ)
    → ground_answer (set_ground m.atoms (map coded xs) code (length list)) ≡ Ok tt → NoWorld m (code ∷ map coded xs)
    → ys ≡ xs → count ≡ length ys + 1 → list' ≡ (code ∷ map coded ys) ++ drop (length ys + 1) list
    → Clashed m (map coded xs) (code ∷ map coded xs) code list count (map coded ys) list'
set_clashed coded m xs ys code list count list' passed no_world same counted written =
    let stack = map coded xs in
    let long : length ys + 1 ≡ length (code ∷ stack) = omega (arith, ap length same, length-map xs coded) in
    record {
      reason = (set_accepted m.atoms stack code (length list) passed).0;
      stack_same = ap (map coded) same;
      counted = counted ∙ long;
      written = written ∙ ap (λ zs. (code ∷ map coded zs) ++ drop (length ys + 1) list) same ∙ ap (λ n. (code ∷ stack) ++ drop n list) long;
      true_conflict = record { others = stack; begins = refl; in_order = picked_all stack; no_world = no_world };
    }
