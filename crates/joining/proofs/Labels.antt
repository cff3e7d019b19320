-- The labels that joins leave: each is joined to its variable, none is above it, and what an equality joins has one label.
use Rattle.std.proofs.Common.{◌≡◌, ℕ, zero, suc, ◌+◌, ◌<◌, ◌≤◌, true, false, cond, ◌⊎◌, List, [], ◌∷◌, ◌++◌, map, length, ℤ, pos, nat_abs, ◌≤ℤ◌, sym, refl, ap, ◌∙◌, subst, inl, inr, arith}
use lib.ListN.{length-map}
use lib.Signed.{lt_z}
use Rattle.std.proofs.lemmas.List.{get_or-map}
use Rattle.std.proofs.lemmas.Int.{ints}
use Rattle.std.proofs.lemmas.Bool.{cases_Bool, cond-true, cond-false}
use Rattle.std.specs.Int.{int_max, int_min}
use Rattle.std.specs.List.{ContainsAt as Has, AllByRecursion}
use Rattle.joining.specs.declared.Join.{Join}
use Rattle.joining.specs.Joins.{at, same, Fits, Joined, itself, onward, back, joined_by, joined_by_all, numbers}
use Rattle.joining.proofs.Chains.{same_true, joined_trans, joined_sym, Level}

-- ---- one join

-- the label that a label becomes, where two labels are joined
abbrev lowered : ℤ → ℤ → ℤ → ℤ
lowered a b z = cond (same z (int_max a b)) (int_min a b) z

-- both labels become the lower one
lowered_one : (a b : ℤ) → lowered a b a ≡ lowered a b b
lowered_one a b = grind (arith, ints)

-- a label stays, or it is the higher one and becomes the lower
lowered_cases : (a b z : ℤ)
    → (lowered a b z ≡ z) ⊎ ((z ≡ a) × (b ≤ℤ a) × (lowered a b z ≡ b)) ⊎ ((z ≡ b) × (a ≤ℤ b) × (lowered a b z ≡ a))
lowered_cases a b z = elim (cases_Bool (same z (int_max a b))) [
  | inl e ↦
      let high = same_true z (int_max a b) e in
      let is : lowered a b z ≡ int_min a b = cond-true (same z (int_max a b)) (int_min a b) z e in
      elim (cases_Bool (lt_z b a)) [
        | inl l ↦ inr (inl (high ∙ cond-true (lt_z b a) a b l, omega (arith, ints), is ∙ cond-true (lt_z b a) b a l))
        | inr l ↦ inr (inr (high ∙ cond-false (lt_z b a) a b l, omega (arith, ints), is ∙ cond-false (lt_z b a) b a l))
      ]
  | inr e ↦ inl (cond-false (same z (int_max a b)) (int_min a b) z e)
]

module _ (j : Join) (w : List ℤ) where
  joined_by_equal : j.equal ≡ true → joined_by j w ≡ map (lowered (at w j.a) (at w j.b)) w
  joined_by_equal e = cond-true j.equal (map (lowered (at w j.a) (at w j.b)) w) w e

  joined_by_differ : j.equal ≡ false → joined_by j w ≡ w
  joined_by_differ e = cond-false j.equal (map (lowered (at w j.a) (at w j.b)) w) w e

  pub length_joined_by : length (joined_by j w) ≡ length w
  length_joined_by = elim (cases_Bool j.equal) [
    | inl e ↦ ap length (joined_by_equal e) ∙ length-map w (lowered (at w j.a) (at w j.b))
    | inr e ↦ ap length (joined_by_differ e)
  ]

  at_equal : j.equal ≡ true → (x : ℕ) → x < length w → at (joined_by j w) x ≡ lowered (at w j.a) (at w j.b) (at w x)
  at_equal e x h = ap (λ v. at v x) (joined_by_equal e) ∙ get_or-map (lowered (at w j.a) (at w j.b)) w x (pos 0) (pos 0) h

  at_differ : j.equal ≡ false → (x : ℕ) → at (joined_by j w) x ≡ at w x
  at_differ e x = ap (λ v. at v x) (joined_by_differ e)

  -- one label stays one label
  joined_by_keeps : (x y : ℕ) → x < length w → y < length w → at w x ≡ at w y → at (joined_by j w) x ≡ at (joined_by j w) y
  joined_by_keeps x y h k p = elim (cases_Bool j.equal) [
    | inl e ↦ at_equal e x h ∙ ap (lowered (at w j.a) (at w j.b)) p ∙ sym (at_equal e y k)
    | inr e ↦ at_differ e x ∙ p ∙ sym (at_differ e y)
  ]

  -- what it joins has one label
  joined_by_joins : Fits (length w) j → j.equal ≡ true → at (joined_by j w) j.a ≡ at (joined_by j w) j.b
  joined_by_joins f e =
      at_equal e j.a f.a_below ∙ lowered_one (at w j.a) (at w j.b) ∙ sym (at_equal e j.b f.b_below)

-- A variable's label: the number of a variable that is joined to it, and is not above it.
pub record Label (js : List Join) (w : List ℤ) (x : ℕ) : Type 0 where
  pub number : ℕ
  pub shown : at w x ≡ pos number
  pub not_above : number ≤ x
  pub joined : Joined js x number

abbrev pub Labels : List Join → List ℤ → Type 0
Labels js w = (x : ℕ) → x < length w → Label js w x

pos_same : (m n : ℕ) → pos m ≡ pos n → m ≡ n
pos_same m n e = ap nat_abs e

-- a number that is not above the label of x is not above x
not_over : (l m n x : ℕ) → l ≤ x → pos l ≡ pos m → pos n ≤ℤ pos m → n ≤ x
not_over l m n x h e low = omega (arith, ints, pos_same l m e)

module _ (js : List Join) (w : List ℤ) where
  -- variables with one label are joined
  pub joined_by_label : {x y : ℕ} → Label js w x → Label js w y → at w x ≡ at w y → Joined js x y
  joined_by_label {x} {y} l m e =
      let one : l.number ≡ m.number = pos_same l.number m.number (sym l.shown ∙ e ∙ m.shown) in
      joined_trans (subst (Joined js x) one l.joined) (joined_sym m.joined)

  -- x had the label of y, and has that of z
  label_moved : (v : List ℤ) (x y z : ℕ) → Label js w x → Label js w y → Label js w z → Joined js y z
      → at w x ≡ at w y → at w z ≤ℤ at w y → at v x ≡ at w z → Label js v x
  label_moved v x y z l m n p e low is =
      record {
        number = n.number;
        shown = is ∙ n.shown;
        not_above =
            not_over l.number m.number n.number x l.not_above (sym l.shown ∙ e ∙ m.shown)
            (subst (λ u. u ≤ℤ pos m.number) n.shown (subst (λ u. at w z ≤ℤ u) m.shown low));
        joined = joined_trans (joined_by_label l m e) (joined_trans p n.joined);
      }

  label_same : (v : List ℤ) (x : ℕ) → Label js w x → at v x ≡ at w x → Label js v x
  label_same v x l e = record { number = l.number; shown = e ∙ l.shown; not_above = l.not_above; joined = l.joined }

  labels_joined_by : (j : Join) → Has js j → Fits (length w) j → Labels js w → Labels js (joined_by j w)
  labels_joined_by j has f ls x h = elim (cases_Bool j.equal) [
    | inl e ↦ on_equal e
    | inr e ↦ label_same (joined_by j w) x (ls x k) (at_differ j w e x)
  ]
    where
      k : x < length w
      k = subst (λ n. x < n) (length_joined_by j w) h

      on_equal : j.equal ≡ true → Label js (joined_by j w) x
      on_equal e =
          let is = at_equal j w e x k in
          let a = ls j.a f.a_below in
          let b = ls j.b f.b_below in
          elim (lowered_cases (at w j.a) (at w j.b) (at w x)) [
            | inl s ↦ label_same (joined_by j w) x (ls x k) (is ∙ s)
            | inr (inl m) ↦ label_moved (joined_by j w) x j.a j.b (ls x k) a b (onward j has e itself) m.0 m.1 (is ∙ m.2)
            | inr (inr m) ↦ label_moved (joined_by j w) x j.b j.a (ls x k) b a (back j has e itself) m.0 m.1 (is ∙ m.2)
          ]

-- ---- all joins

fits_joined_by : (j : Join) (js : List Join) (w : List ℤ) → AllByRecursion (Fits (length w)) js → AllByRecursion (Fits (length (joined_by j w))) js
fits_joined_by j js w f = subst (λ n. AllByRecursion (Fits n) js) (sym (length_joined_by j w)) f

pub length_joined_by_all : (js : List Join) (w : List ℤ) → length (joined_by_all js w) ≡ length w
length_joined_by_all [] w = refl
length_joined_by_all (j ∷ js) w = length_joined_by_all js (joined_by j w) ∙ length_joined_by j w

-- one join more
pub joined_by_all_push : (js : List Join) (j : Join) (w : List ℤ) → joined_by_all (js ++ j ∷ []) w ≡ joined_by j (joined_by_all js w)
joined_by_all_push [] j w = refl
joined_by_all_push (k ∷ js) j w = joined_by_all_push js j (joined_by k w)

joined_by_all_keeps : (js : List Join) (w : List ℤ) (x y : ℕ) → x < length w → y < length w → at w x ≡ at w y
    → at (joined_by_all js w) x ≡ at (joined_by_all js w) y
joined_by_all_keeps [] w x y h k e = e
joined_by_all_keeps (j ∷ js) w x y h k e =
    joined_by_all_keeps js (joined_by j w) x y
    (subst (λ n. x < n) (sym (length_joined_by j w)) h) (subst (λ n. y < n) (sym (length_joined_by j w)) k)
    (joined_by_keeps j w x y h k e)

pub joined_by_all_level : (js : List Join) (w : List ℤ) → AllByRecursion (Fits (length w)) js → AllByRecursion (Level (joined_by_all js w)) js
joined_by_all_level [] w f = tt
joined_by_all_level (j ∷ js) w f = (
  λ e. joined_by_all_keeps js (joined_by j w) j.a j.b
      (subst (λ n. j.a < n) (sym (length_joined_by j w)) f.0.a_below)
      (subst (λ n. j.b < n) (sym (length_joined_by j w)) f.0.b_below)
      (joined_by_joins j w f.0 e),
  joined_by_all_level js (joined_by j w) (fits_joined_by j js w f.1),
)

pub labels_joined_by_all : (all js : List Join) (w : List ℤ) → AllByRecursion (Has all) js → AllByRecursion (Fits (length w)) js → Labels all w
    → Labels all (joined_by_all js w)
labels_joined_by_all all [] w has f ls = ls
labels_joined_by_all all (j ∷ js) w has f ls =
    labels_joined_by_all all js (joined_by j w) has.1 (fits_joined_by j js w f.1) (labels_joined_by all w j has.0 f.0 ls)

-- ---- the labels from each variable's own number

pub length_numbers : (from n : ℕ) → length (numbers from n) ≡ n
length_numbers from zero = refl
length_numbers from (suc n) = ap suc (length_numbers (suc from) n)

at_numbers : (from n x : ℕ) → x < n → at (numbers from n) x ≡ pos (from + x)
at_numbers from zero x h = absurd (omega arith)
at_numbers from (suc n) zero h = ap pos (omega arith)
at_numbers from (suc n) (suc x) h = at_numbers (suc from) n x (omega arith) ∙ ap pos (omega arith)

-- one number more
pub numbers_push : (from n : ℕ) → numbers from n ++ pos (from + n) ∷ [] ≡ numbers from (n + 1)
numbers_push from zero = ap (λ k. pos k ∷ []) (omega arith)
numbers_push from (suc n) =
    ap (λ k. pos from ∷ (numbers (suc from) n ++ pos k ∷ [])) (omega arith)
    ∙ ap (λ zs. pos from ∷ zs) (numbers_push (suc from) n)
    ∙ ap (numbers from) more
  where
    more : suc (n + 1) ≡ suc n + 1
    more = omega arith

pub labels_numbers : (js : List Join) (n : ℕ) → Labels js (numbers 0 n)
labels_numbers js n x h =
    record {
      number = x;
      shown = at_numbers 0 n x (subst (λ k. x < k) (length_numbers 0 n) h) ∙ ap pos (omega arith);
      not_above = omega arith;
      joined = itself;
    }
