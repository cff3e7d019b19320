use Rattle.std.proofs.Common.{◌+◌, ◌*◌, ◌||◌, length, get_or, take, pos, sym, ap, ◌∙◌, subst, ap₂, arith}
use Rattle.std.proofs.ByRecursion.{All-get_or, All-take}
use Rattle.std.proofs.lemmas.List.{length-take-le, take_all, take_more}
use Rattle.relaxing.specs.declared.Limit.{Limit}
use Rattle.relaxing.specs.Limits.{Fits, Shallow, lowers, relaxed, moves, pass}
use Rattle.relaxing.proofs.Passes.{shallow_more, pass_push, moves_push, pass_shallow}
use Rattle.relaxing.proofs.relax_pass.Goals as goal

-- what stands past the end of a list
abbrev none : Limit
none = record { code = 0; a = 0; b = 0; weight = pos 0 }

pub relax_one-moved-requires : goal.relax_one-moved-requires
relax_one-moved-requires c =
    let ls = c.args.limits.now in
    let w = c.args.times.now in
    let i = c.loop-limit.limit-index in
    let deep = c.requires.shallow.0 in
    record {
      fits =
          subst (λ n. Fits n (get_or ls i none)) (sym c.loop-limit.auto.times)
          (All-get_or (Fits (length w)) ls i none c.loop-limit-test.true c.requires.fits);
      shallow =
          subst (Shallow 1000000000000) (sym c.loop-limit.invariant.0)
          (shallow_more (deep + length (take i ls) * 1000001) 1000000000000
          (omega (arith, length-take-le i ls c.loop-limit.auto.limit-index-end, c.requires.shallow.2, c.loop-limit.auto.limit-index-end))
          (pass (take i ls) w)
          (pass_shallow (take i ls) w deep (All-take (Fits (length w)) i ls c.requires.fits) c.requires.shallow.1));
    }

pub loop-limit-preserved : goal.loop-limit-preserved
loop-limit-preserved c =
    let ls = c.args.limits.now in
    let w = c.args.times.now in
    let i = c.loop-limit.limit-index in
    let l = get_or ls i none in
    let more = sym (take_more ls i none c.loop-limit-test.true) in (
      c.relax_one-moved.ensures.after
          ∙ ap (λ v. relaxed v l) c.loop-limit.invariant.0
          ∙ sym (pass_push (take i ls) l w)
          ∙ ap (λ front. pass front w) more,
      ap₂ ◌||◌ c.loop-limit.invariant.1 (c.relax_one-moved.ensures.moved ∙ ap (λ v. lowers v l) c.loop-limit.invariant.0)
          ∙ sym (moves_push (take i ls) l w)
          ∙ ap (λ front. moves front w) more,
    )

pub returns : goal.returns
returns c =
    let ls = c.args.limits.now in
    let w = c.args.times.now in
    let all = take_all c.loop-limit.limit-index ls c.loop-limit-test.false in
    record {
      moved = c.loop-limit.invariant.1 ∙ ap (λ front. moves front w) all;
      after = c.loop-limit.invariant.0 ∙ ap (λ front. pass front w) all;
    }
