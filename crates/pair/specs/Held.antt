-- What a pair shows, by its fields.
use Rattle.std.specs.Prelude.{ℕ, List, map, ℤ}
use Rattle.theory.specs.declared.Theory.{Ghosts}
use Rattle.theory.specs.Meaning.{Meaning}
use Rattle.pair.specs.declared.Pair.{Pair}
use Rattle.pair.specs.Pairs.{sizes_of, pair_fits, shown_pair, pair_world, pair_conflict}

module _ {L R : Type 0} {l : Ghosts L} {r : Ghosts R} where
  -- the codes of the set literals, oldest first
  abbrev pub codes_of : Pair L R l r → List ℕ
  codes_of p = map (λ c. c.code) p.stack.records

  abbrev pub places_of : Pair L R l r → ℕ
  places_of p = p.stack.places

  abbrev pub meaning_of : Pair L R l r → Meaning
  meaning_of p = shown_pair (places_of p) (l.meaning p.left) (r.meaning p.right)

  -- the free choices of a pair, by those of its sides
  abbrev pub world_of : Pair L R l r → List ℤ
  world_of p =
      pair_world (pair_fits (places_of p) (sizes_of (l.meaning p.left)) (sizes_of (r.meaning p.right))) (l.given_world p.left) (r.given_world p.right)

  abbrev pub conflict_of : Pair L R l r → ℕ → List ℕ
  conflict_of p = pair_conflict (l.meaning p.left).atoms (l.given_conflict p.left) (r.given_conflict p.right)
