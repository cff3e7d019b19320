-- What one limit, a pass and several passes do to the times.
use Rattle.std.proofs.Common.{◌≡◌, ℕ, zero, suc, ◌+◌, ◌-◌, ◌*◌, ◌<◌, ◌≤◌, Bool, true, false, ◌||◌, ◌⊎◌, List, [], ◌∷◌, ◌++◌, length, set, ℤ, pos, negsuc, ◌+ℤ◌, ◌-ℤ◌, neg_ℤ, ◌≤ℤ◌, sym, refl, ap, ◌∙◌, subst, inl, inr, suc-mul, suc-add, zero-add, arith, length-set}
use lib.Signed.{lt_z, ≤ℤ_refl}
use Rattle.std.proofs.ByRecursion.{All-set, All-get_or, All-weaker}
use Rattle.std.proofs.lemmas.List.{get_or-set_same, get_or-set_other, set_past}
use Rattle.std.proofs.lemmas.Int.{ints}
use Rattle.std.proofs.lemmas.Bool.{cases_Bool, cases_eq, cases_lt, cond-true, cond-false, or_parts, or_from}
use Rattle.std.specs.List.{AllByRecursion}
use Rattle.relaxing.specs.declared.Limit.{Limit}
use Rattle.relaxing.specs.Limits.{at, Met, Fits, Shallow, lowers, relaxed, pass, moves, passes}

-- what follows of each element from two facts
pub all_both_weaker : {X : Type 0} (P Q R : X → Type 0) → ((x : X) → P x → Q x → R x) → (xs : List X) → AllByRecursion P xs → AllByRecursion Q xs → AllByRecursion R xs
all_both_weaker P Q R f [] p q = tt
all_both_weaker P Q R f (x ∷ xs) p q = (f x p.0 q.0, all_both_weaker P Q R f xs p.1 q.1)

or_false : (b : Bool) → (b || false) ≡ b
or_false true = refl
or_false false = refl

or_assoc : (a b c : Bool) → (a || (b || c)) ≡ ((a || b) || c)
or_assoc true b c = refl
or_assoc false b c = refl

-- What a limit says of three numbers: the times x of a and y of b, and the weight k.
not_lower : (x y k : ℤ) → lt_z (y +ℤ k) x ≡ false → (x -ℤ y) ≤ℤ k
not_lower x y k e = omega (arith, ints)

met_not_lower : (x y k : ℤ) → (x -ℤ y) ≤ℤ k → lt_z (y +ℤ k) x ≡ false
met_not_lower x y k h = grind (arith, ints)

lower : (x y k : ℤ) → lt_z (y +ℤ k) x ≡ true → (y +ℤ k) ≤ℤ x
lower x y k e = omega (arith, ints)

pub ≤ℤ_trans : {x y z : ℤ} → x ≤ℤ y → y ≤ℤ z → x ≤ℤ z
≤ℤ_trans h k = omega (arith, ints)

-- where the times u and v meet it, and v is not above y, u is not above what y allows
under_met : (u v y k : ℤ) → (u -ℤ v) ≤ℤ k → v ≤ℤ y → u ≤ℤ (y +ℤ k)
under_met u v y k m h = omega (arith, ints)

-- a time after a write: the one written, or the one that was there
pub set_cases : (w : List ℤ) (a : ℕ) (z : ℤ) (x : ℕ)
    → ((x ≡ a) × (at (set w a z) x ≡ z)) ⊎ (at (set w a z) x ≡ at w x)
set_cases w a z x = elim (cases_eq x a) [
  | inl e ↦ elim (cases_lt a (length w)) [
    | inl h ↦ inl (e, ap (λ i. at (set w a z) i) e ∙ get_or-set_same w a z (pos 0) h)
    | inr h ↦ inr (ap (λ v. at v x) (set_past w a z h))
  ]
  | inr ne ↦ inr (get_or-set_other w a x z (pos 0) ne)
]

pub shallow_more : (d e : ℕ) → d ≤ e → (w : List ℤ) → Shallow d w → Shallow e w
shallow_more d e h w s =
    All-weaker (λ z. (neg_ℤ (pos d) ≤ℤ z) × (z ≤ℤ pos 0)) (λ z. (neg_ℤ (pos e) ≤ℤ z) × (z ≤ℤ pos 0)) (λ z k. (omega (arith, ints), k.1)) w s

-- ---- one limit

module _ (w : List ℤ) (l : Limit) where
  pub relaxed_lower : lowers w l ≡ true → relaxed w l ≡ set w l.a (at w l.b +ℤ l.weight)
  relaxed_lower e = cond-true (lowers w l) (set w l.a (at w l.b +ℤ l.weight)) w e

  pub relaxed_still : lowers w l ≡ false → relaxed w l ≡ w
  relaxed_still e = cond-false (lowers w l) (set w l.a (at w l.b +ℤ l.weight)) w e

  pub met_when_still : lowers w l ≡ false → Met w l
  met_when_still e = not_lower (at w l.a) (at w l.b) l.weight e

  pub still_when_met : Met w l → lowers w l ≡ false
  still_when_met h = met_not_lower (at w l.a) (at w l.b) l.weight h

  -- each time afterwards: the lowered one, or the one that was there
  pub relaxed_cases : (x : ℕ)
      → ((lowers w l ≡ true) × (x ≡ l.a) × (at (relaxed w l) x ≡ at w l.b +ℤ l.weight)) ⊎ (at (relaxed w l) x ≡ at w x)
  relaxed_cases x = elim (cases_Bool (lowers w l)) [
    | inl e ↦ elim (set_cases w l.a (at w l.b +ℤ l.weight) x) [
      | inl h ↦ inl (e, h.0, ap (λ v. at v x) (relaxed_lower e) ∙ h.1)
      | inr h ↦ inr (ap (λ v. at v x) (relaxed_lower e) ∙ h)
    ]
    | inr e ↦ inr (ap (λ v. at v x) (relaxed_still e))
  ]

  pub length_relaxed : length (relaxed w l) ≡ length w
  length_relaxed = elim (cases_Bool (lowers w l)) [
    | inl e ↦ ap length (relaxed_lower e) ∙ length-set w l.a (at w l.b +ℤ l.weight)
    | inr e ↦ ap length (relaxed_still e)
  ]

  pub relaxed_falls : (x : ℕ) → at (relaxed w l) x ≤ℤ at w x
  relaxed_falls x = elim (relaxed_cases x) [
    | inl h ↦
        let low : (at w l.b +ℤ l.weight) ≤ℤ at w l.a = lower (at w l.a) (at w l.b) l.weight h.0 in
        subst (λ z. z ≤ℤ at w x) (sym h.2) (subst (λ i. (at w l.b +ℤ l.weight) ≤ℤ at w i) (sym h.1) low)
    | inr h ↦ subst (λ z. z ≤ℤ at w x) (sym h) (≤ℤ_refl (at w x))
  ]

  -- times that meet the limit and are not later stay so
  pub relaxed_above : (s : List ℤ) → Met s l → ((x : ℕ) → at s x ≤ℤ at w x) → (x : ℕ) → at s x ≤ℤ at (relaxed w l) x
  relaxed_above s m h x = elim (relaxed_cases x) [
    | inl c ↦
        let low : at s l.a ≤ℤ (at w l.b +ℤ l.weight) = under_met (at s l.a) (at s l.b) (at w l.b) l.weight m (h l.b) in
        subst (λ z. at s x ≤ℤ z) (sym c.2) (subst (λ i. at s i ≤ℤ (at w l.b +ℤ l.weight)) (sym c.1) low)
    | inr c ↦ subst (λ z. at s x ≤ℤ z) (sym c) (h x)
  ]

  -- one limit takes the times at most 1,000,001 further down
  pub relaxed_shallow : (deep : ℕ) → Fits (length w) l → Shallow deep w → Shallow (deep + 1000001) (relaxed w l)
  relaxed_shallow deep f h = elim (cases_Bool (lowers w l)) [
    | inl e ↦ subst (Shallow (deep + 1000001)) (sym (relaxed_lower e))
        (All-set (λ z. (neg_ℤ (pos (deep + 1000001)) ≤ℤ z) × (z ≤ℤ pos 0)) w l.a (at w l.b +ℤ l.weight) (written e) deeper)
    | inr e ↦ subst (Shallow (deep + 1000001)) (sym (relaxed_still e)) deeper
  ]
    where
      deeper : Shallow (deep + 1000001) w
      deeper = shallow_more deep (deep + 1000001) (omega arith) w h

      in_reach : (x : ℕ) → x < length w → (neg_ℤ (pos deep) ≤ℤ at w x) × (at w x ≤ℤ pos 0)
      in_reach x k = All-get_or (λ z. (neg_ℤ (pos deep) ≤ℤ z) × (z ≤ℤ pos 0)) w x (pos 0) k h

      sum_shallow : (x y k : ℤ) → neg_ℤ (pos deep) ≤ℤ y → x ≤ℤ pos 0 → negsuc 1000000 ≤ℤ k → lt_z (y +ℤ k) x ≡ true
          → (neg_ℤ (pos (deep + 1000001)) ≤ℤ (y +ℤ k)) × ((y +ℤ k) ≤ℤ pos 0)
      sum_shallow x y k i j low e = (omega (arith, ints), omega (arith, ints))

      written : lowers w l ≡ true → (neg_ℤ (pos (deep + 1000001)) ≤ℤ (at w l.b +ℤ l.weight)) × ((at w l.b +ℤ l.weight) ≤ℤ pos 0)
      written e = sum_shallow (at w l.a) (at w l.b) l.weight (in_reach l.b f.b_below).0 (in_reach l.a f.a_below).1 f.low e

-- ---- a pass

pub length_pass : (ls : List Limit) (w : List ℤ) → length (pass ls w) ≡ length w
length_pass [] w = refl
length_pass (l ∷ ls) w = length_pass ls (relaxed w l) ∙ length_relaxed w l

-- a pass that changes nothing, and limits that are met: each follows from the other
pub still_met : (ls : List Limit) (w : List ℤ) → moves ls w ≡ false → AllByRecursion (Met w) ls
still_met [] w e = tt
still_met (l ∷ ls) w e =
    let p = or_parts (lowers w l) (moves ls (relaxed w l)) e in
    (met_when_still w l p.0, still_met ls w (subst (λ v. moves ls v ≡ false) (relaxed_still w l p.0) p.1))

pub still_pass : (ls : List Limit) (w : List ℤ) → moves ls w ≡ false → pass ls w ≡ w
still_pass [] w e = refl
still_pass (l ∷ ls) w e =
    let p = or_parts (lowers w l) (moves ls (relaxed w l)) e in
    let same = relaxed_still w l p.0 in
    ap (pass ls) same ∙ still_pass ls w (subst (λ v. moves ls v ≡ false) same p.1)

pub met_still : (ls : List Limit) (w : List ℤ) → AllByRecursion (Met w) ls → moves ls w ≡ false
met_still [] w h = refl
met_still (l ∷ ls) w h =
    let still = still_when_met w l h.0 in
    or_from (lowers w l) (moves ls (relaxed w l)) still
    (subst (λ v. moves ls v ≡ false) (sym (relaxed_still w l still)) (met_still ls w h.1))

-- a pass raises no time
pub pass_falls : (ls : List Limit) (w : List ℤ) (x : ℕ) → at (pass ls w) x ≤ℤ at w x
pass_falls [] w x = ≤ℤ_refl (at w x)
pass_falls (l ∷ ls) w x = ≤ℤ_trans (pass_falls ls (relaxed w l) x) (relaxed_falls w l x)

-- and goes below no times that meet the limits
pub pass_above : (ls : List Limit) (w s : List ℤ) → AllByRecursion (Met s) ls → ((x : ℕ) → at s x ≤ℤ at w x)
    → (x : ℕ) → at s x ≤ℤ at (pass ls w) x
pass_above [] w s m h = h
pass_above (l ∷ ls) w s m h = pass_above ls (relaxed w l) s m.1 (relaxed_above w l s m.0 h)

pub pass_shallow : (ls : List Limit) (w : List ℤ) (deep : ℕ) → AllByRecursion (Fits (length w)) ls → Shallow deep w
    → Shallow (deep + length ls * 1000001) (pass ls w)
pass_shallow [] w deep f h = subst (λ d. Shallow d w) (omega arith) h
pass_shallow (l ∷ ls) w deep f h =
    subst (λ d. Shallow d (pass ls (relaxed w l))) (omega arith)
    (pass_shallow ls (relaxed w l) (deep + 1000001)
    (subst (λ n. AllByRecursion (Fits n) ls) (sym (length_relaxed w l)) f.1)
    (relaxed_shallow w l deep f.0 h))

-- one limit more
pub pass_push : (ls : List Limit) (l : Limit) (w : List ℤ) → pass (ls ++ l ∷ []) w ≡ relaxed (pass ls w) l
pass_push [] l w = refl
pass_push (k ∷ ls) l w = pass_push ls l (relaxed w k)

pub moves_push : (ls : List Limit) (l : Limit) (w : List ℤ) → moves (ls ++ l ∷ []) w ≡ (moves ls w || lowers (pass ls w) l)
moves_push [] l w = or_false (lowers w l)
moves_push (k ∷ ls) l w =
    ap (λ b. lowers w k || b) (moves_push ls l (relaxed w k))
    ∙ or_assoc (lowers w k) (moves ls (relaxed w k)) (lowers (pass ls (relaxed w k)) l)

-- ---- several passes

pub length_passes : (n : ℕ) (ls : List Limit) (w : List ℤ) → length (passes n ls w) ≡ length w
length_passes zero ls w = refl
length_passes (suc n) ls w = length_passes n ls (pass ls w) ∙ length_pass ls w

pub passes_more : (n : ℕ) (ls : List Limit) (w : List ℤ) → passes (suc n) ls w ≡ pass ls (passes n ls w)
passes_more zero ls w = refl
passes_more (suc n) ls w = passes_more n ls (pass ls w)

pub passes_still : (n : ℕ) (ls : List Limit) (w : List ℤ) → moves ls w ≡ false → passes n ls w ≡ w
passes_still zero ls w e = refl
passes_still (suc n) ls w e = ap (passes n ls) (still_pass ls w e) ∙ passes_still n ls w e

pub passes_add : (m n : ℕ) (ls : List Limit) (w : List ℤ) → passes (m + n) ls w ≡ passes n ls (passes m ls w)
passes_add zero n ls w = ap (λ k. passes k ls w) (zero-add n)
passes_add (suc m) n ls w = ap (λ k. passes k ls w) (suc-add m n) ∙ passes_add m n ls (pass ls w)

-- passes behind one that changes nothing
pub passes_early : (m n : ℕ) (ls : List Limit) (w : List ℤ) → m ≤ n → moves ls (passes m ls w) ≡ false
    → passes n ls w ≡ passes m ls w
passes_early m n ls w h e =
    ap (λ k. passes k ls w) rest ∙ passes_add m (n - m) ls w ∙ passes_still (n - m) ls (passes m ls w) e
  where
    rest : n ≡ m + (n - m)
    rest = omega arith

pub passes_falls : (n : ℕ) (ls : List Limit) (w : List ℤ) (x : ℕ) → at (passes n ls w) x ≤ℤ at w x
passes_falls zero ls w x = ≤ℤ_refl (at w x)
passes_falls (suc n) ls w x = ≤ℤ_trans (passes_falls n ls (pass ls w) x) (pass_falls ls w x)

pub passes_above : (n : ℕ) (ls : List Limit) (w s : List ℤ) → AllByRecursion (Met s) ls → ((x : ℕ) → at s x ≤ℤ at w x)
    → (x : ℕ) → at s x ≤ℤ at (passes n ls w) x
passes_above zero ls w s m h = h
passes_above (suc n) ls w s m h = passes_above n ls (pass ls w) s m (pass_above ls w s m h)

pub passes_shallow : (n : ℕ) (ls : List Limit) (w : List ℤ) (deep : ℕ) → AllByRecursion (Fits (length w)) ls → Shallow deep w
    → Shallow (deep + n * (length ls * 1000001)) (passes n ls w)
passes_shallow zero ls w deep f h = shallow_more deep (deep + 0 * (length ls * 1000001)) (omega arith) w h
passes_shallow (suc n) ls w deep f h =
    shallow_more ((deep + length ls * 1000001) + n * (length ls * 1000001)) (deep + suc n * (length ls * 1000001))
    (omega (arith, suc-mul n (length ls * 1000001))) (passes n ls (pass ls w))
    (passes_shallow n ls (pass ls w) (deep + length ls * 1000001)
    (subst (λ k. AllByRecursion (Fits k) ls) (sym (length_pass ls w)) f) (pass_shallow ls w deep f h))
