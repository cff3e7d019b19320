-- How many atoms are unset, counted below their number, so that one more set literal takes one away.
use Rattle.std.proofs.Common.{◌≡◌, ℕ, zero, suc, ◌+◌, ◌^◌, ◌<◌, ◌≤◌, Bool, true, false, cond, ◌||◌, eqb, List, [], ◌∷◌, sym, refl, ap, ◌∙◌, ⊎_elim, arith}
use Rattle.std.proofs.lemmas.Bool.{cases_eq, eq-eqb, ne_eqb, or_left, cond-true, cond-false}
use Rattle.theory.specs.Meaning.{atom_of, names}

abbrev pub unset : ℕ → List ℕ → ℕ
unset zero set = 0
unset (suc n) set = cond (names set n) (unset n set) (suc (unset n set))

-- only the atoms count
pub unset_same : (n : ℕ) (c d : ℕ) (set : List ℕ) → atom_of c ≡ atom_of d → unset n (c ∷ set) ≡ unset n (d ∷ set)
unset_same zero c d set e = refl
unset_same (suc n) c d set e =
    let i = unset_same n c d set e in
    ap (λ k. cond (names (c ∷ set) n) k (suc k)) i ∙ ap (λ a. cond (eqb a n || names set n) (unset n (d ∷ set)) (suc (unset n (d ∷ set)))) e

unset_beyond : (n : ℕ) (c : ℕ) (set : List ℕ) → n ≤ atom_of c → unset n (c ∷ set) ≡ unset n set
unset_beyond zero c set h = refl
unset_beyond (suc n) c set h =
    let i = unset_beyond n c set (omega arith) in
    let other = ne_eqb (atom_of c) n (λ e. omega (arith, e, h)) in
    ap (λ k. cond (names (c ∷ set) n) k (suc k)) i ∙ ap (λ b. cond (b || names set n) (unset n set) (suc (unset n set))) other

-- setting an unset atom
pub unset_push : (n : ℕ) (c : ℕ) (set : List ℕ) → atom_of c < n → names set (atom_of c) ≡ false → unset n set ≡ suc (unset n (c ∷ set))
unset_push zero c set h u = absurd (omega (arith, h))
unset_push (suc n) c set h u =
    ⊎_elim
    (λ e.
    let free : names set n ≡ false = ap (names set) (sym e) ∙ u in
    let named : names (c ∷ set) n ≡ true = or_left (eqb (atom_of c) n) (names set n) (eq-eqb (atom_of c) n e) in
    cond-false (names set n) (unset n set) (suc (unset n set)) free
    ∙ ap suc (sym (unset_beyond n c set (omega (arith, e))) ∙ sym (cond-true (names (c ∷ set) n) (unset n (c ∷ set)) (suc (unset n (c ∷ set))) named)))
    (λ ne.
    let i = unset_push n c set (omega (arith, h, ne)) u in
    let other = ne_eqb (atom_of c) n ne in
    step (names set n) (unset n set) (unset n (c ∷ set)) i
    ∙ ap suc (sym (ap (λ b. cond (b || names set n) (unset n (c ∷ set)) (suc (unset n (c ∷ set)))) other)))
    (cases_eq (atom_of c) n)
  where
    step : (b : Bool) (x y : ℕ) → x ≡ suc y → cond b x (suc x) ≡ suc (cond b y (suc y))
    step true x y e = e
    step false x y e = ap suc e

-- with nothing set all atoms are unset
pub unset_all : (n : ℕ) → unset n [] ≡ n
unset_all zero = refl
unset_all (suc n) = ap suc (unset_all n)

-- 2^k - 1
abbrev pub full : ℕ → ℕ
full zero = 0
full (suc k) = full k + full k + 1

pub full_power : (k : ℕ) → full k + 1 ≡ 2 ^ k
full_power zero = refl
full_power (suc k) = let i = full_power k in omega (arith, i)
