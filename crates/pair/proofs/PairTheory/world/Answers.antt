use Rattle.std.proofs.Common.{◌≡◌, sym, ap, arith}
use Rattle.theory.specs.declared.Sizes.{Sizes}
use Rattle.pair.specs.Held.{meaning_of, world_of}
use Rattle.pair.specs.Worlds.{together_worldly}
use Rattle.pair.proofs.Writing.{nothing_written, world_put}
use Rattle.pair.proofs.PairTheory.world.Goals as goal

pub returns-then-self-eq0-clause-written : goal.returns-then-self-eq0-clause-written
returns-then-self-eq0-clause-written g c =
    let p = c.args.self.now in
    let none : p.sizes.variables ≡ (meaning_of p).variables = ap (λ (s : Sizes). s.variables) p.together.sizes_are in
    sym (nothing_written (meaning_of p).variables (world_of p) c.args.list.now
    (together_worldly p.together (g.met.L.Theory.worldly p.left) (g.met.R.Theory.worldly p.right)).whole (omega arith))

pub returns-clause-written : goal.returns-clause-written
returns-clause-written g c =
    let p = c.args.self.now in
    world_put (g.L.Theory.given_world p.left) (g.R.Theory.given_world p.right) c.args.list.now p.together (omega arith) (omega arith) (g.met.L.Theory.worldly p.left).whole c.world.ensures.written c.world-2.ensures.written
