-- What a pair of two theories means. The left's atoms and variables come first, the right's behind them.
use Rattle.std.specs.Prelude.{◌≡◌, ℕ, ◌+◌, ◌-◌, ◌*◌, Bool, true, false, cond, ◌&&◌, List, [], ◌∷◌, ◌++◌, map, take, drop, ℤ, Some, None, Ok, Err, Option, Result, nat_le, nat_lt}
use Rattle.refusals.specs.Grounds.{clash_count}
use Rattle.refusals.specs.declared.Refusal.{Refusal}
use Rattle.theory.specs.declared.Sizes.{Sizes}
use Rattle.theory.specs.Calls.{SetBy}
use Rattle.theory.specs.Meaning.{Meaning, HasWorld, different}

-- A literal is the left's where its code is below twice the left's atoms. Otherwise it is the right's, which numbers it
-- lower by so much.
abbrev pub is_left : ℕ → ℕ → Bool
is_left cut code = nat_lt code (2 * cut)

-- the literals that are the left's, in order
abbrev pub left_of : ℕ → List ℕ → List ℕ
left_of cut [] = []
left_of cut (code ∷ codes) = cond (is_left cut code) (code ∷ left_of cut codes) (left_of cut codes)

-- the literals that are the right's, in order, as the right numbers them
abbrev pub right_of : ℕ → List ℕ → List ℕ
right_of cut [] = []
right_of cut (code ∷ codes) = cond (is_left cut code) (right_of cut codes) ((code - 2 * cut) ∷ right_of cut codes)

-- literals of the right, as the pair numbers them
abbrev pub raised : ℕ → List ℕ → List ℕ
raised by codes = map (λ code. code + by) codes

-- the world of a pair is a world of the left and then a world of the right
abbrev pub pair_meaning : Meaning → Meaning → Meaning
pair_meaning l r =
    record {
      atoms = l.atoms + r.atoms;
      variables = l.variables + r.variables;
      holds =
          λ code world.
          cond (is_left l.atoms code)
          (l.holds code (take l.variables world))
          (r.holds (code - 2 * l.atoms) (drop l.variables world));
    }

abbrev pub sizes_of : Meaning → Sizes
sizes_of m = record { atoms = m.atoms; variables = m.variables }

-- whether a pair of theories of these sizes is within the limits, with so many places for its stack
abbrev pub pair_fits : ℕ → Sizes → Sizes → Bool
pair_fits places l r = nat_le (l.atoms + r.atoms) 512 && (nat_le (l.variables + r.variables) 512 && nat_le (l.atoms + r.atoms) places)

-- the sizes that such a pair shows: where it is not within the limits, none
abbrev pub pair_sizes : ℕ → Sizes → Sizes → Sizes
pair_sizes places l r =
    cond (pair_fits places l r)
    (record { atoms = l.atoms + r.atoms; variables = l.variables + r.variables })
    (record { atoms = 0; variables = 0 })

-- no atoms and no variables
abbrev pub nothing : Meaning
nothing = record { atoms = 0; variables = 0; holds = λ _ _. false }

abbrev pub shown_if : Bool → Meaning → Meaning → Meaning
shown_if fits l r = cond fits (pair_meaning l r) nothing

-- what a pair shows
abbrev pub shown_pair : ℕ → Meaning → Meaning → Meaning
shown_pair places l r = shown_if (pair_fits places (sizes_of l) (sizes_of r)) l r

-- What holds of the two sides of a pair: their stacks hold the literals that are set in the pair, each its own. `codes` are
-- the pair's, and `lefts` and `rights` the sides'.
pub record Together (l r : Meaning) (lefts rights codes : List ℕ) (places : ℕ) (cut sizes : Sizes) : Type 0 where
  pub left_stack : lefts ≡ left_of l.atoms codes
  pub right_stack : rights ≡ right_of l.atoms codes
  pub cut_is : cut ≡ sizes_of l
  pub sizes_are : sizes ≡ sizes_of (shown_pair places l r)
  pub apart : different (shown_pair places l r).atoms codes ≡ true

-- the world that a pair gives
abbrev pub pair_world : Bool → List ℤ → List ℤ → List ℤ
pair_world fits left right = cond fits (left ++ right) []

-- the conflict that a pair gives for a literal, by the side that the literal is of
abbrev pub pair_conflict : ℕ → (ℕ → List ℕ) → (ℕ → List ℕ) → ℕ → List ℕ
pair_conflict cut left right code = cond (is_left cut code) (left code) (raised (2 * cut) (right (code - 2 * cut)))

-- The pair `m` is exact: literals have a world exactly when the left's have one in the left, and the right's in the right.
pub record PairExact (m l r : Meaning) : Type 0 where
  pub split : (codes : List ℕ) → HasWorld m codes → HasWorld l (left_of l.atoms codes) × HasWorld r (right_of l.atoms codes)
  pub joined : (codes : List ℕ) → HasWorld l (left_of l.atoms codes) → HasWorld r (right_of l.atoms codes) → HasWorld m codes

-- a list with so much of its front raised
abbrev pub raised_front : ℕ → Option ℕ → List ℕ → List ℕ
raised_front by None list = list
raised_front by (Some count) list = raised by (take count list) ++ drop count list

-- a list with the conflict at its front raised, where the answer is a clash
abbrev pub raised_conflict : ℕ → Result (Unit {0}) Refusal → List ℕ → List ℕ
raised_conflict by (Ok _) list = list
raised_conflict by (Err why) list = raised_front by (clash_count why) list

-- `set` of a theory whose literals another numbers higher by so much
abbrev pub RaisedSetBy : ℕ → Meaning → List ℕ → (ℕ → List ℕ) → ℕ → List ℕ → Result (Unit {0}) Refusal → List ℕ → List ℕ → Type 0
RaisedSetBy by m stack conflict code list answer stack' list' =
    (written : List ℕ)
    × (SetBy m stack (conflict (code - by)) (code - by) list answer stack' written × (list' ≡ raised_conflict by answer written))
