-- A conflict that a theory wrote, before it is raised.
use Rattle.std.proofs.Common.{◌≡◌, ℕ, ◌+◌, ◌<◌, ◌≤◌, true, List, length, take, drop, Err, Result, sym, ap, ◌∙◌, subst, arith}
use Rattle.std.proofs.ByRecursion.{All-weaker}
use Rattle.std.proofs.lemmas.List.{take_at}
use Rattle.std.specs.List.{AllByRecursion}
use Rattle.refusals.specs.declared.Refusal.{Refusal}
use Rattle.refusals.specs.declared.Refusal.TheVariants.{Clash}
use Rattle.theory.proofs.Apart.{different_below}
use Rattle.theory.specs.Calls.{Clashed, SetBy}
use Rattle.theory.specs.Meaning.{Meaning, atom_of, different}
use Rattle.pair.proofs.Sides.{picked_hold}

-- raised by no more than the left's atoms ask for, every code still fits
pub raised_fit : (m : Meaning) (stack conflict : List ℕ) (code : ℕ) (list stack' list' : List ℕ) {answer : Result (Unit {0}) Refusal} {count : ℕ}
    → answer ≡ Err (Clash count) → SetBy m stack conflict code list answer stack' list'
    → (by : ℕ) → m.atoms ≤ 512 → different m.atoms stack ≡ true → by ≤ 1024 → code + by < 65536 → AllByRecursion (λ c. c + by < 65536) (take count list')
raised_fit m stack conflict code list stack' list' {answer} {count} is s by few apart small fits =
    let k : Clashed m stack conflict code list count stack' list' = subst (λ a. SetBy m stack conflict code list a stack' list') is s in
    let others : AllByRecursion (λ c. c + by < 65536) k.true_conflict.others =
    picked_hold (λ c. c + by < 65536) k.true_conflict.in_order
    (All-weaker (λ c. atom_of c < m.atoms) (λ c. c + by < 65536) (λ c h. omega arith) stack (different_below m.atoms stack apart)) in
    let front : take count list' ≡ conflict = ap (take count) k.written ∙ take_at conflict (drop (length conflict) list) count (sym k.counted) in
    subst (AllByRecursion (λ c. c + by < 65536)) (sym (front ∙ k.true_conflict.begins)) (fits, others)
