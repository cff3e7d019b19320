-- What the theory's answers say of the set literals. The codes are newest first, and the theory's stack has them oldest first.
use Rattle.std.proofs.Common.{◌≡◌, ℕ, ◌≤◌, true, false, ◌||◌, eqb, List, [], ◌∷◌, ◌++◌, reverse, length, ℤ, is_err, Some, None, Ok, Err, Option, Result, sym, refl, ap, ◌∙◌, subst, arith, MatchOption}
use Rattle.std.proofs.ByRecursion.{All-push}
use Rattle.std.proofs.lemmas.Grind.{common_steps}
use Rattle.std.proofs.lemmas.List.{reverse-append, reverse-reverse}
use Rattle.std.proofs.lemmas.Bool.{false≢true}
use Rattle.std.specs.List.{AllByRecursion}
use Rattle.refusals.specs.Grounds.{clash_count}
use Rattle.refusals.specs.declared.Refusal.{Refusal}
use Rattle.steps.proofs.Judged.{none≢some}
use Rattle.theory.specs.Calls.{set_ground, Picked, none, keep, skip, Clashed, NotLookedAt, SetBy}
use Rattle.theory.specs.Meaning.{Meaning, AllHold, WorldOf, NoWorld, atom_of, names, HasWorld}
use Rattle.clauses.specs.Standing.{can_set}

pub reverse_first : {A : Type 0} (x : A) (xs : List A) → reverse (x ∷ xs) ≡ reverse xs ++ (x ∷ [])
reverse_first x xs = reverse-append (x ∷ []) xs

all_reverse : {A : Type 0} (P : A → Type 0) (xs : List A) → AllByRecursion P xs → AllByRecursion P (reverse xs)
all_reverse P [] h = tt
all_reverse P (x ∷ xs) h = subst (AllByRecursion P) (sym (reverse_first x xs)) (All-push P (reverse xs) x (all_reverse P xs h.1) h.0)

names_push : (cs : List ℕ) (c a : ℕ) → names (cs ++ (c ∷ [])) a ≡ (eqb (atom_of c) a || names cs a)
names_push [] c a = refl
names_push (x ∷ cs) c a = let i = names_push cs c a in grind arith

names_reverse : (cs : List ℕ) (a : ℕ) → names (reverse cs) a ≡ names cs a
names_reverse [] a = refl
names_reverse (c ∷ cs) a = let i = names_reverse cs a in rw (reverse_first c cs, names_push (reverse cs) c a, i)

all_picked : {A : Type 0} (P : A → Type 0) {xs ys : List A} → Picked xs ys → AllByRecursion P ys → AllByRecursion P xs
all_picked P none h = tt
all_picked P (keep p) h = (h.0, all_picked P p h.1)
all_picked P (skip p) h = all_picked P p h.1

module _ (m : Meaning) (cs : List ℕ) where
  -- why a literal that can be set is looked at
  pub looked_at : (code places : ℕ) → can_set m.atoms cs code ≡ true → m.atoms ≤ places → set_ground m.atoms (reverse cs) code places ≡ None
  looked_at code places h room = let e = names_reverse cs (atom_of code) in grind (arith, common_steps)

  module _ (code : ℕ) (list conflict stack' list' : List ℕ) (can : can_set m.atoms cs code ≡ true) (room : m.atoms ≤ length list) where
    clashed : (why : Refusal) (o : Option ℕ) → MatchOption o (NotLookedAt m (reverse cs) code list why stack' list') (λ count. Clashed m (reverse cs) conflict code list count stack' list')
        → NoWorld m (code ∷ cs)
    clashed why None by w is = absurd (none≢some (sym (looked_at code (length list) can room) ∙ by.reason))
    clashed why (Some count) by w is =
        by.true_conflict.no_world w
        (record {
          whole = is.whole;
          all_hold =
              subst (λ xs. AllHold m xs w) (sym by.true_conflict.begins)
              (is.all_hold.0, all_picked (λ c. m.holds c w ≡ true) by.true_conflict.in_order (all_reverse (λ c. m.holds c w ≡ true) cs is.all_hold.1));
        })

-- what `set` makes of a literal that can be set
module _ (m : Meaning) (cs stack : List ℕ) (is : stack ≡ reverse cs) (code : ℕ) (list conflict stack' list' : List ℕ) where
  -- refused: it has no world with the set literals
  pub no_world : can_set m.atoms cs code ≡ true → m.atoms ≤ length list → (r : Result (Unit {0}) Refusal) → is_err r ≡ true → SetBy m stack conflict code list r stack' list' → NoWorld m (code ∷ cs)
  no_world can room (Ok done) e by = absurd (false≢true e)
  no_world can room (Err why) e by =
      clashed m cs code list conflict stack' list' can room why (clash_count why) (subst (λ xs. SetBy m xs conflict code list (Err why) stack' list') is by)

  -- accepted: the stack has it too
  pub grown : (r : Result (Unit {0}) Refusal) → is_err r ≡ false → SetBy m stack conflict code list r stack' list' → stack' ≡ reverse (code ∷ cs)
  grown r e by = let f = reverse_first code cs in grind (arith, common_steps)

-- a world of the theory's stack is one of the set literals
pub world_is : {m m' : Meaning} {stack : List ℕ} {world : List ℤ} (cs : List ℕ) → m' ≡ m → stack ≡ reverse cs → WorldOf m' stack world → WorldOf m cs world
world_is {m} {m'} {stack} {world} cs same is w =
    let v = subst (λ (n : Meaning). WorldOf n stack world) same w in
    record { whole = v.whole; all_hold = subst (AllByRecursion (λ c. m.holds c world ≡ true)) (ap reverse is ∙ reverse-reverse cs) (all_reverse (λ c. m.holds c world ≡ true) stack v.all_hold) }

pub has_world : {m m' : Meaning} {stack : List ℕ} {world : List ℤ} (cs : List ℕ) → m' ≡ m → stack ≡ reverse cs → WorldOf m' stack world → HasWorld m cs
has_world {world = world} cs same is w = record { world = world; is_world = world_is cs same is w }
