-- Worlds of a pair are a world of the left and then one of the right. These are proofs; nothing in them has to be believed.
use Rattle.std.specs.Prelude.{◌≡◌, ℕ, ◌+◌, ◌-◌, ◌*◌, ◌<◌, Bool, true, false, cond, not, List, [], ◌∷◌, ◌++◌, length, take, drop, ℤ, refl}
use Rattle.std.proofs.Common.{⊎_elim, sym, subst, arith}
use Rattle.std.proofs.lemmas.List.{length-append, length-drop, length-take-le, take_at, drop_at}
use Rattle.std.proofs.lemmas.Bool.{cases_lt}
use Rattle.std.proofs.lemmas.Bool.Decides.{nat_tests}
use Rattle.std.specs.List.{AllByRecursion}
use Rattle.theory.specs.declared.Sizes.{Sizes}
use Rattle.theory.proofs.Apart.{different_few}
use Rattle.theory.specs.Meaning.{Meaning, Lawful, AllHold, WorldOf, different}
use Rattle.pair.specs.Pairs.{is_left, left_of, right_of, pair_meaning, sizes_of, pair_fits, shown_if, shown_pair, pair_world, PairExact, Together}

-- the same literals may be written in another way
pub world_at : (m : Meaning) (world : List ℤ) {codes codes' : List ℕ} → codes ≡ codes' → WorldOf m codes world → WorldOf m codes' world
world_at m world e w = subst (λ ls. WorldOf m ls world) e w

-- one more literal, of the side that a test says
module _ (P Q : ℕ → Bool) (x y : ℕ) (ls rs : List ℕ) where
  split_more : (b : Bool) → cond b (P x) (Q y) ≡ true → AllByRecursion (λ c. P c ≡ true) ls × AllByRecursion (λ c. Q c ≡ true) rs
      → AllByRecursion (λ c. P c ≡ true) (cond b (x ∷ ls) ls) × AllByRecursion (λ c. Q c ≡ true) (cond b rs (y ∷ rs))
  split_more true h k = ((h, k.0), k.1)
  split_more false h k = (k.0, (h, k.1))

  join_more : (b : Bool) → AllByRecursion (λ c. P c ≡ true) (cond b (x ∷ ls) ls) → AllByRecursion (λ c. Q c ≡ true) (cond b rs (y ∷ rs))
      → (cond b (P x) (Q y) ≡ true) × (AllByRecursion (λ c. P c ≡ true) ls × AllByRecursion (λ c. Q c ≡ true) rs)
  join_more true h k = (h.0, (h.1, k))
  join_more false h k = (k.0, (h, k.1))

module _ (l r : Meaning) where
  abbrev lefts : List ℕ → List ℕ
  lefts = left_of l.atoms

  abbrev rights : List ℕ → List ℕ
  rights = right_of l.atoms

  split_holds : (codes : List ℕ) (world : List ℤ) → AllHold (pair_meaning l r) codes world
      → AllHold l (lefts codes) (take l.variables world) × AllHold r (rights codes) (drop l.variables world)
  split_holds [] world h = (tt, tt)
  split_holds (x ∷ codes) world h =
      split_more (λ c. l.holds c (take l.variables world)) (λ c. r.holds c (drop l.variables world)) x (x - 2 * l.atoms) (lefts codes) (rights codes)
      (is_left l.atoms x) h.0 (split_holds codes world h.1)

  hold_together : (codes : List ℕ) (world : List ℤ) → AllHold l (lefts codes) (take l.variables world) → AllHold r (rights codes) (drop l.variables world)
      → AllHold (pair_meaning l r) codes world
  hold_together [] world h k = tt
  hold_together (x ∷ codes) world h k =
      let s = join_more (λ c. l.holds c (take l.variables world)) (λ c. r.holds c (drop l.variables world)) x (x - 2 * l.atoms) (lefts codes) (rights codes)
      (is_left l.atoms x) h k in
      (s.0, hold_together codes world s.1.0 s.1.1)

  module _ (codes : List ℕ) where
    module _ (world : List ℤ) (w : WorldOf (pair_meaning l r) codes world) where
      pub left_world : WorldOf l (lefts codes) (take l.variables world)
      left_world =
          record {
            whole = length-take-le l.variables world (omega (arith, w.whole));
            all_hold = (split_holds codes world w.all_hold).0;
          }

      pub right_world : WorldOf r (rights codes) (drop l.variables world)
      right_world =
          record {
            whole = let d = length-drop l.variables world in omega (arith, w.whole);
            all_hold = (split_holds codes world w.all_hold).1;
          }

    pub joined_world : (left right : List ℤ) → WorldOf l (lefts codes) left → WorldOf r (rights codes) right → WorldOf (pair_meaning l r) codes (left ++ right)
    joined_world left right h k =
        record {
          whole = let e = length-append left right in omega (arith, h.whole, k.whole);
          all_hold =
              hold_together codes (left ++ right)
              (subst (AllHold l (lefts codes)) (sym (take_at left right l.variables h.whole)) h.all_hold)
              (subst (AllHold r (rights codes)) (sym (drop_at left right l.variables h.whole)) k.all_hold);
        }

  pub pair_exact : PairExact (pair_meaning l r) l r
  pair_exact =
      record {
        split =
            λ codes w. (
              record { world = take l.variables w.world; is_world = left_world codes w.world w.is_world },
              record { world = drop l.variables w.world; is_world = right_world codes w.world w.is_world },
            );
        joined = λ codes h k. record { world = h.world ++ k.world; is_world = joined_world codes h.world k.world h.is_world k.is_world };
      }

  -- in every world exactly one of a literal and its opposite holds
  module _ (hl : Lawful l) (hr : Lawful r) where
    one_of_two : (a : ℕ) → a < l.atoms + r.atoms → (world : List ℤ) → length world ≡ l.variables + r.variables
        → (pair_meaning l r).holds (2 * a + 1) world ≡ not ((pair_meaning l r).holds (2 * a) world)
    one_of_two a below world whole =
        let v = l.variables in
        let n = l.atoms in
        let front = take v world in
        let back = drop v world in
        let d = length-drop v world in
        ⊎_elim
        (λ h.
        let one = hl.one_of_two a h front (length-take-le v world (omega arith)) in
        grind (arith, nat_tests))
        (λ h.
        let one = hr.one_of_two (a - n) (omega arith) back (omega arith) in
        let atom : 2 * (a - n) ≡ 2 * a - 2 * n = omega arith in
        let opposite : 2 * (a - n) + 1 ≡ 2 * a + 1 - 2 * n = omega arith in
        grind (arith, nat_tests))
        (cases_lt a n)

    shown_lawful : (places : ℕ) (b : Bool) → pair_fits places (sizes_of l) (sizes_of r) ≡ b → Lawful (shown_if b l r)
    shown_lawful places true e =
        record {
          few_atoms = grind (arith, nat_tests);
          few_variables = grind (arith, nat_tests);
          one_of_two = one_of_two;
        }
    shown_lawful places false e = record { few_atoms = omega arith; few_variables = omega arith; one_of_two = λ a h. absurd (omega arith) }

    pub pair_lawful : (places : ℕ) → Lawful (shown_pair places l r)
    pair_lawful places = shown_lawful places (pair_fits places (sizes_of l) (sizes_of r)) refl

  shown_world : (b : Bool) (codes : List ℕ) (left right : List ℤ) → different (shown_if b l r).atoms codes ≡ true
      → WorldOf l (lefts codes) left → WorldOf r (rights codes) right → WorldOf (shown_if b l r) codes (pair_world b left right)
  shown_world true codes left right d h k = joined_world codes left right h k
  shown_world false [] left right d h k = record { whole = refl; all_hold = tt }
  shown_world false (x ∷ codes) left right d h k = absurd (omega (arith, different_few 0 (x ∷ codes) d))

  pub pair_worldly : (places : ℕ) (codes : List ℕ) (left right : List ℤ) → different (shown_pair places l r).atoms codes ≡ true
      → WorldOf l (lefts codes) left → WorldOf r (rights codes) right
      → WorldOf (shown_pair places l r) codes (pair_world (pair_fits places (sizes_of l) (sizes_of r)) left right)
  pair_worldly places = shown_world (pair_fits places (sizes_of l) (sizes_of r))

-- the law of the world, from the law of each side
pub together_worldly : {l r : Meaning} {lefts rights codes : List ℕ} {places : ℕ} {cut sizes : Sizes} {left right : List ℤ}
    → Together l r lefts rights codes places cut sizes → WorldOf l lefts left → WorldOf r rights right
    → WorldOf (shown_pair places l r) codes (pair_world (pair_fits places (sizes_of l) (sizes_of r)) left right)
together_worldly {l} {r} {lefts} {rights} {codes} {places} {cut} {sizes} {left} {right} t h k =
    pair_worldly l r places codes left right t.apart (world_at l left t.left_stack h) (world_at r right t.right_stack k)
