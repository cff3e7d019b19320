-- Where there are times that meet the limits, one pass less than there are times changes all that is to be changed.
-- As in Dijkstra's algorithm, each pass settles one variable more: the one whose time is the least above the times s
-- that meet the limits.
use Rattle.std.proofs.Common.{◌≡◌, ℕ, zero, suc, ◌+◌, ◌<◌, ◌≤◌, Bool, true, false, ◌||◌, eqb, ◌⊎◌, List, [], ◌∷◌, length, ℤ, pos, ◌+ℤ◌, ◌-ℤ◌, ◌≤ℤ◌, ◌<ℤ◌, sym, refl, ap, ◌∙◌, subst, subst₂, inl, inr, arith}
use lib.Signed.{lt_z, ≤ℤ_refl}
use Rattle.std.proofs.ByRecursion.{All-weaker}
use Rattle.std.proofs.lemmas.List.{get_or-set_same}
use Rattle.std.proofs.lemmas.Int.{ints, by_lt_z}
use Rattle.std.proofs.lemmas.Bool.{cases_Bool, eqb-true, eqb-false, eq-eqb, or_cases, or_parts, or_left, or_right, or_from, both_ways}
use Rattle.std.specs.List.{AllByRecursion}
use Rattle.relaxing.specs.declared.Limit.{Limit}
use Rattle.relaxing.specs.Limits.{at, Met, Fits, lowers, relaxed, pass, moves, passes}
use Rattle.relaxing.proofs.Passes.{≤ℤ_trans, relaxed_lower, relaxed_still, met_when_still, still_when_met, relaxed_cases, relaxed_falls, length_relaxed, length_pass, met_still, passes_still, all_both_weaker}

-- ---- the variables that are not settled, and the least of them

abbrev among : List ℕ → ℕ → Bool
among [] x = false
among (y ∷ ys) x = eqb x y || among ys x

-- every number below n
abbrev below : ℕ → List ℕ
below zero = []
below (suc n) = n ∷ below n

length_below : (n : ℕ) → length (below n) ≡ n
length_below zero = refl
length_below (suc n) = ap suc (length_below n)

among_below : (n x : ℕ) → x < n → among (below n) x ≡ true
among_below zero x h = absurd (omega arith)
among_below (suc n) x h = elim (cases_Bool (eqb x n)) [
  | inl e ↦ or_left (eqb x n) (among (below n) x) e
  | inr e ↦ or_right (eqb x n) (among (below n) x) (among_below n x (omega (arith, eqb-false x n e)))
]

-- one of a list that is the least by f, and the others
record Least (f : ℕ → ℤ) (xs : List ℕ) : Type 0 where
  one : ℕ
  others : List ℕ
  shorter : length xs ≡ suc (length others)
  one_among : among xs one ≡ true
  others_among : (y : ℕ) → among others y ≡ true → among xs y ≡ true
  none_else : (y : ℕ) → among others y ≡ false → (y ≡ one) ⊎ (among xs y ≡ false)
  least : (y : ℕ) → among xs y ≡ true → f one ≤ℤ f y

only_one : (x y : ℕ) → among (x ∷ []) y ≡ true → y ≡ x
only_one x y h = elim (or_cases (eqb y x) false h) [ inl e ↦ eqb-true y x e | inr e ↦ absurd (both_ways false refl e) ]

module _ (f : ℕ → ℤ) (x : ℕ) where
  x_first : (xs : List ℕ) → among (x ∷ xs) x ≡ true
  x_first xs = or_left (eqb x x) (among xs x) (eq-eqb x x refl)

  none_first : (xs : List ℕ) (y : ℕ) → among xs y ≡ false → (y ≡ x) ⊎ (among (x ∷ xs) y ≡ false)
  none_first xs y h = elim (cases_Bool (eqb y x)) [
    | inl e ↦ inl (eqb-true y x e)
    | inr e ↦ inr (or_from (eqb y x) (among xs y) e h)
  ]

  -- x is the least of x and xs if none of xs is less
  first : (xs : List ℕ) → ((y : ℕ) → among xs y ≡ true → f x ≤ℤ f y) → Least f (x ∷ xs)
  first xs h =
      record {
        one = x;
        others = xs;
        shorter = refl;
        one_among = x_first xs;
        others_among = λ y k. or_right (eqb y x) (among xs y) k;
        none_else = none_first xs;
        least = λ y k. elim (or_cases (eqb y x) (among xs y) k) [
          | inl e ↦ subst (λ z. f x ≤ℤ f z) (sym (eqb-true y x e)) (≤ℤ_refl (f x))
          | inr e ↦ h y e
        ];
      }

  -- or else the least of xs is
  later : (xs : List ℕ) (r : Least f xs) → f r.one <ℤ f x → Least f (x ∷ xs)
  later xs r h =
      record {
        one = r.one;
        others = x ∷ r.others;
        shorter = ap suc r.shorter;
        one_among = or_right (eqb r.one x) (among xs r.one) r.one_among;
        others_among = λ y k. elim (or_cases (eqb y x) (among r.others y) k) [
          | inl e ↦ or_left (eqb y x) (among xs y) e
          | inr e ↦ or_right (eqb y x) (among xs y) (r.others_among y e)
        ];
        none_else = λ y k.
            let p = or_parts (eqb y x) (among r.others y) k in
            elim (r.none_else y p.1) [ inl e ↦ inl e | inr e ↦ inr (or_from (eqb y x) (among xs y) p.0 e) ];
        least = λ y k. elim (or_cases (eqb y x) (among xs y) k) [
          | inl e ↦ subst (λ z. f r.one ≤ℤ f z) (sym (eqb-true y x e)) (omega (arith, ints))
          | inr e ↦ r.least y e
        ];
      }

least_of : (f : ℕ → ℤ) (x : ℕ) (xs : List ℕ) → Least f (x ∷ xs)
least_of f x [] = first f x [] (λ y h. absurd (both_ways false refl h))
least_of f x (z ∷ zs) = go (least_of f z zs)
  where
    go : Least f (z ∷ zs) → Least f (x ∷ z ∷ zs)
    go r = by_lt_z (f r.one) (f x) (later f x (z ∷ zs) r)
        (λ h. first f x (z ∷ zs) (λ y k. let low : f r.one ≤ℤ f y = r.least y k in omega (arith, ints)))

-- ---- what a pass does to the times whose slack is at most that of m

-- how far the time of x is above the one in s
abbrev slack : List ℤ → List ℤ → ℕ → ℤ
slack s w x = at w x -ℤ at s x

-- From w to v times fall, but none whose slack is at most that of m, and no slack falls below that of m.
record Stepped (s : List ℤ) (m : ℕ) (w v : List ℤ) : Type 0 where
  falls : (x : ℕ) → at v x ≤ℤ at w x
  same : (x : ℕ) → slack s w x ≤ℤ slack s w m → at v x ≡ at w x
  above : (x : ℕ) → slack s w m ≤ℤ slack s w x → slack s w m ≤ℤ slack s v x

-- a limit that lowers no time whose slack is at most that of m
abbrev Safe : List ℤ → ℕ → List ℤ → Limit → Type 0
Safe s m w l = ((slack s w l.b ≤ℤ slack s w m) × Met w l) ⊎ (slack s w m ≤ℤ slack s w l.b)

-- What that comes to in numbers: d is the slack of m, and k the weight of a limit on a and b.
module _ (d wa wb sa sb k : ℤ) (met : (sa -ℤ sb) ≤ℤ k) where
  lowered_far : d ≤ℤ (wb -ℤ sb) → lt_z (wb +ℤ k) wa ≡ true → d <ℤ (wa -ℤ sa)
  lowered_far h e = omega (arith, ints)

  lowered_above : d ≤ℤ (wb -ℤ sb) → d ≤ℤ ((wb +ℤ k) -ℤ sa)
  lowered_above h = omega (arith, ints)

ordered_met : (wa wb sa sb k : ℤ) → (sa -ℤ sb) ≤ℤ k → (wa -ℤ sa) ≤ℤ (wb -ℤ sb) → (wa -ℤ wb) ≤ℤ k
ordered_met wa wb sa sb k met h = omega (arith, ints)

apart_met : (wa wb va vb k : ℤ) → va ≤ℤ wa → vb ≡ wb → (wa -ℤ wb) ≤ℤ k → (va -ℤ vb) ≤ℤ k
apart_met wa wb va vb k h e m = omega (arith, ints)

reached_met : (wb va vb k : ℤ) → va ≡ wb +ℤ k → vb ≡ wb → (va -ℤ vb) ≤ℤ k
reached_met wb va vb k p q = omega (arith, ints)

far_clash : (d x y : ℤ) → x ≤ℤ d → d <ℤ y → x ≡ y → ⊥
far_clash d x y h k e = omega (arith, ints)

module _ (s : List ℤ) (m : ℕ) where
  stepped_none : (w : List ℤ) → Stepped s m w w
  stepped_none w = record { falls = λ x. ≤ℤ_refl (at w x); same = λ x h. refl; above = λ x h. h }

  module _ {w v : List ℤ} (t : Stepped s m w v) where
    slack_kept : (x : ℕ) → slack s w x ≤ℤ slack s w m → slack s v x ≡ slack s w x
    slack_kept x h = ap (λ z. z -ℤ at s x) (t.same x h)

    bound_kept : slack s v m ≡ slack s w m
    bound_kept = slack_kept m (≤ℤ_refl (slack s w m))

    near_kept : (x : ℕ) → slack s w x ≤ℤ slack s w m → slack s v x ≤ℤ slack s v m
    near_kept x h = subst₂ ◌≤ℤ◌ (sym (slack_kept x h)) (sym bound_kept) h

    above_kept : (x : ℕ) → slack s w m ≤ℤ slack s w x → slack s v m ≤ℤ slack s v x
    above_kept x h = subst (λ z. z ≤ℤ slack s v x) (sym bound_kept) (t.above x h)

    met_kept : (l : Limit) → slack s w l.b ≤ℤ slack s w m → Met w l → Met v l
    met_kept l h k = apart_met (at w l.a) (at w l.b) (at v l.a) (at v l.b) l.weight (t.falls l.a) (t.same l.b h) k

    safe_kept : (l : Limit) → Safe s m w l → Safe s m v l
    safe_kept l (inl p) = inl (near_kept l.b p.0, met_kept l p.0 p.1)
    safe_kept l (inr h) = inr (above_kept l.b h)

    stepped_on : {u : List ℤ} → Stepped s m v u → Stepped s m w u
    stepped_on {u} r =
        record {
          falls = λ x. ≤ℤ_trans (r.falls x) (t.falls x);
          same = λ x h. r.same x (near_kept x h) ∙ t.same x h;
          above = λ x h. subst (λ z. z ≤ℤ slack s u x) bound_kept (r.above x (above_kept x h));
        }

  module _ (w : List ℤ) (l : Limit) (met : Met s l) (safe : Safe s m w l) where
    lowers_above : lowers w l ≡ true → slack s w m ≤ℤ slack s w l.b
    lowers_above e = elim safe [ inl p ↦ absurd (both_ways (lowers w l) (still_when_met w l p.1) e) | inr h ↦ h ]

    step : Stepped s m w (relaxed w l)
    step =
        record {
          falls = relaxed_falls w l;
          same = λ x h. elim (relaxed_cases w l x) [
            | inl c ↦ absurd (far_clash (slack s w m) (slack s w x) (slack s w l.a) h
                (lowered_far (slack s w m) (at w l.a) (at w l.b) (at s l.a) (at s l.b) l.weight met (lowers_above c.0) c.0)
                (ap (slack s w) c.1))
            | inr c ↦ c
          ];
          above = λ x h. elim (relaxed_cases w l x) [
            | inl c ↦ subst₂ (λ z i. slack s w m ≤ℤ (z -ℤ at s i)) (sym c.2) (sym c.1)
                (lowered_above (slack s w m) (at w l.a) (at w l.b) (at s l.a) (at s l.b) l.weight met (lowers_above c.0))
            | inr c ↦ subst (λ z. slack s w m ≤ℤ (z -ℤ at s x)) (sym c) h
          ];
        }

    -- the limit itself is then met, if the time of b is to stay
    step_met : l.a < length w → slack s w l.b ≤ℤ slack s w m → Met (relaxed w l) l
    step_met a_below h = elim (cases_Bool (lowers w l)) [
      | inl e ↦ reached_met (at w l.b) (at (relaxed w l) l.a) (at (relaxed w l) l.b) l.weight
          (ap (λ v. at v l.a) (relaxed_lower w l e) ∙ get_or-set_same w l.a (at w l.b +ℤ l.weight) (pos 0) a_below)
          (step.same l.b h)
      | inr e ↦ subst (λ v. Met v l) (sym (relaxed_still w l e)) (met_when_still w l e)
    ]

  stepped_pass : (ls : List Limit) (w : List ℤ) → AllByRecursion (Met s) ls → AllByRecursion (Safe s m w) ls → Stepped s m w (pass ls w)
  stepped_pass [] w met safe = stepped_none w
  stepped_pass (l ∷ ls) w met safe =
      let one = step w l met.0 safe.0 in
      stepped_on one (stepped_pass ls (relaxed w l) met.1 (All-weaker (Safe s m w) (Safe s m (relaxed w l)) (safe_kept one) ls safe.1))

  pass_met : (ls : List Limit) (w : List ℤ) → AllByRecursion (Fits (length w)) ls → AllByRecursion (Met s) ls → AllByRecursion (Safe s m w) ls
      → AllByRecursion (λ l. slack s w l.b ≤ℤ slack s w m → Met (pass ls w) l) ls
  pass_met [] w fits met safe = tt
  pass_met (l ∷ ls) w fits met safe =
      let one = step w l met.0 safe.0 in
      let v : List ℤ = relaxed w l in
      let safe' : AllByRecursion (Safe s m v) ls = All-weaker (Safe s m w) (Safe s m v) (safe_kept one) ls safe.1 in (
        λ h. met_kept (stepped_pass ls v met.1 safe') l (near_kept one l.b h) (step_met w l met.0 safe.0 fits.0.a_below h),
        All-weaker (λ l. slack s v l.b ≤ℤ slack s v m → Met (pass ls v) l) (λ l. slack s w l.b ≤ℤ slack s w m → Met (pass ls v) l)
            (λ l k h. k (near_kept one l.b h)) ls
            (pass_met ls v (subst (λ n. AllByRecursion (Fits n) ls) (sym (length_relaxed w l)) fits.1) met.1 safe'),
      )

-- ---- one variable more with each pass

-- A limit whose b is settled is met, and no settled variable has a greater slack than an unsettled one.
record Settled (ls : List Limit) (s : List ℤ) (unsettled : List ℕ) (w : List ℤ) : Type 0 where
  met : AllByRecursion (λ l. among unsettled l.b ≡ false → Met w l) ls
  apart : (x y : ℕ) → x < length w → among unsettled x ≡ false → among unsettled y ≡ true → slack s w x ≤ℤ slack s w y

module _ (ls : List Limit) (s : List ℤ) (met : AllByRecursion (Met s) ls) where
  settled_none : (w : List ℤ) → AllByRecursion (Fits (length w)) ls → Settled ls s (below (length w)) w
  settled_none w fits =
      record {
        met = All-weaker (Fits (length w)) (λ l. among (below (length w)) l.b ≡ false → Met w l)
            (λ l f e. absurd (not_settled l.b f.b_below e)) ls fits;
        apart = λ x y h e k. absurd (not_settled x h e);
      }
    where
      not_settled : (x : ℕ) → x < length w → among (below (length w)) x ≡ false → ⊥
      not_settled x h e = both_ways (among (below (length w)) x) e (among_below (length w) x h)

  module _ (w : List ℤ) (fits : AllByRecursion (Fits (length w)) ls) where
    module _ (xs : List ℕ) (j : Settled ls s xs w) (r : Least (slack s w) xs) where
      near : (x : ℕ) → x < length w → among r.others x ≡ false → slack s w x ≤ℤ slack s w r.one
      near x h e = elim (r.none_else x e) [
        | inl p ↦ subst (λ i. slack s w i ≤ℤ slack s w r.one) (sym p) (≤ℤ_refl (slack s w r.one))
        | inr k ↦ j.apart x r.one h k r.one_among
      ]

      safe : AllByRecursion (Safe s r.one w) ls
      safe = all_both_weaker (Fits (length w)) (λ l. among xs l.b ≡ false → Met w l) (Safe s r.one w)
          (λ l f k. elim (cases_Bool (among xs l.b)) [
            | inl e ↦ inr (r.least l.b e)
            | inr e ↦ inl (j.apart l.b r.one f.b_below e r.one_among, k e)
          ])
          ls fits j.met

      settled_more : Settled ls s r.others (pass ls w)
      settled_more =
          record {
            met = all_both_weaker (Fits (length w)) (λ l. slack s w l.b ≤ℤ slack s w r.one → Met (pass ls w) l)
                (λ l. among r.others l.b ≡ false → Met (pass ls w) l)
                (λ l f k e. k (near l.b f.b_below e))
                ls fits (pass_met s r.one ls w fits met safe);
            apart = λ x y h e k.
                let t = stepped_pass s r.one ls w met safe in
                let low = near x (subst (λ n. x < n) (length_pass ls w) h) e in
                subst (λ z. z ≤ℤ slack s (pass ls w) y) (sym (slack_kept s r.one t x low))
                (≤ℤ_trans low (t.above y (r.least y (r.others_among y k))));
          }

    -- with at most one variable left, all limits are met
    settled_last : (xs : List ℕ) → length xs ≤ 1 → Settled ls s xs w → AllByRecursion (Met w) ls
    settled_last [] h j = All-weaker (λ l. among [] l.b ≡ false → Met w l) (Met w) (λ l k. k refl) ls j.met
    settled_last (x ∷ []) h j =
        all_both_weaker (λ l. Fits (length w) l × Met s l) (λ l. among (x ∷ []) l.b ≡ false → Met w l) (Met w)
        (λ l p k. elim (cases_Bool (among (x ∷ []) l.b)) [ inl e ↦ on_last l p e | inr e ↦ k e ])
        ls (all_both_weaker (Fits (length w)) (Met s) (λ l. Fits (length w) l × Met s l) (λ l f g. (f, g)) ls fits met) j.met
      where
        on_last : (l : Limit) → Fits (length w) l × Met s l → among (x ∷ []) l.b ≡ true → Met w l
        on_last l p e =
            let low : slack s w l.a ≤ℤ slack s w l.b =
            elim (cases_Bool (among (x ∷ []) l.a)) [
              | inl d ↦ subst (λ i. slack s w i ≤ℤ slack s w l.b) (only_one x l.b e ∙ sym (only_one x l.a d)) (≤ℤ_refl (slack s w l.b))
              | inr d ↦ j.apart l.a l.b p.0.a_below d e
            ] in
            ordered_met (at w l.a) (at w l.b) (at s l.a) (at s l.b) l.weight p.1 low
    settled_last (x ∷ y ∷ ys) h j = absurd (omega arith)

  settled_passes : (k : ℕ) (xs : List ℕ) (w : List ℤ) → AllByRecursion (Fits (length w)) ls → length xs ≤ suc k → Settled ls s xs w
      → AllByRecursion (Met (passes k ls w)) ls
  settled_passes zero xs w fits h j = settled_last w fits xs h j
  settled_passes (suc k) [] w fits h j =
      let all = settled_last w fits [] (omega arith) j in
      subst (λ v. AllByRecursion (Met v) ls) (sym (passes_still (suc k) ls w (met_still ls w all))) all
  settled_passes (suc k) (x ∷ xs) w fits h j =
      let r = least_of (slack s w) x xs in
      settled_passes k r.others (pass ls w) (subst (λ n. AllByRecursion (Fits n) ls) (sym (length_pass ls w)) fits)
      (omega (arith, r.shorter)) (settled_more w fits (x ∷ xs) j r)

  -- If any times meet the limits, one pass less than there are times is enough.
  pub enough_passes : (k : ℕ) (w : List ℤ) → AllByRecursion (Fits (length w)) ls → length w ≤ k + 1 → moves ls (passes k ls w) ≡ false
  enough_passes k w fits h =
      met_still ls (passes k ls w)
      (settled_passes k (below (length w)) w fits (omega (arith, length_below (length w))) (settled_none w fits))
