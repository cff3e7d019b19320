use Rattle.std.proofs.Common.{◌≡◌, ℕ, Bool, true, false, List, length, ℤ, MatchBool, cond, sym, ap, ◌∙◌, subst, inl, inr}
use Rattle.std.proofs.lemmas.Bool.{cases_Bool, not-true, not_from_false}
use Rattle.relaxing.specs.declared.Limit.{Limit}
use Rattle.relaxing.specs.Limits.{Latest, NoTimes, moves, pass, latest}
use Rattle.relaxing.proofs.Finding.{latest_when_still, length_latest}
use Rattle.relaxing.proofs.Passes.{met_still}
use Rattle.difference.specs.Differences.{have_times}
use Rattle.difference.proofs.LatestTimesProcedure.solve.Goals as goal

told : (r : Bool) (limits : List Limit) (times : List ℤ) (n : ℕ) → MatchBool r (Latest limits times) (NoTimes limits n)
    → MatchBool r (times ≡ latest limits n) (times ≡ pass limits (latest limits n)) → r ≡ have_times limits n
told true limits times n l a =
    sym (not_from_false (moves limits (latest limits n)) (met_still limits (latest limits n) (subst (Latest limits) a l).met))
told false limits times n none a =
    elim (cases_Bool (have_times limits n)) [
      | inl h ↦ absurd (none (latest limits n) (length_latest limits n) (latest_when_still limits n (not-true (moves limits (latest limits n)) h)).met)
      | inr h ↦ sym h
    ]

pub returns-clause-solved : goal.returns-clause-solved
returns-clause-solved c = told c.relax.result c.args.limits.now c.relax.new.times (length c.args.times.now) c.relax.ensures.latest c.relax.ensures.after

written : (r : Bool) (limits : List Limit) (times : List ℤ) (n : ℕ) → r ≡ have_times limits n
    → MatchBool r (times ≡ latest limits n) (times ≡ pass limits (latest limits n))
    → times ≡ cond (have_times limits n) (latest limits n) (pass limits (latest limits n))
written true limits times n e a = a ∙ ap (λ b. cond b (latest limits n) (pass limits (latest limits n))) e
written false limits times n e a = a ∙ ap (λ b. cond b (latest limits n) (pass limits (latest limits n))) e

pub returns-clause-written : goal.returns-clause-written
returns-clause-written c =
    written c.relax.result c.args.limits.now c.relax.new.times (length c.args.times.now)
    (told c.relax.result c.args.limits.now c.relax.new.times (length c.args.times.now) c.relax.ensures.latest c.relax.ensures.after)
    c.relax.ensures.after
