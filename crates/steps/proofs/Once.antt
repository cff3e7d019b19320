-- The step list leaves no choice: a spot has at most one next spot, and none where it ends.
use Rattle.std.proofs.Common.{◌≡◌, ℕ, suc, ◌+◌, ◌*◌, true, false, ◌⊎◌, List, ◌∷◌, sym, refl, ap, ◌∙◌, subst, inl, inr, ⊎_elim, arith}
use Rattle.std.proofs.lemmas.Bool.{both_ways, cases_order}
use Rattle.theory.specs.Meaning.{Meaning, NoWorld, names, HasWorld}
use Rattle.steps.specs.Clauses.{Clause, some_dead, AllSet, LowestUnset}
use Rattle.steps.specs.Promises.{SameOutcome}
use Rattle.steps.specs.Steps.{Trail, Spot, looking, codes_of, entry, Due, Next, Quiet, Step, fail, force, force_clash, decide, decide_clash, drop_flipped, drop_forced, flip, flip_clash, Ends, found, paused, none, Steps, start_here, then, Runs, decisions}
use Rattle.steps.specs.declared.Mark.TheVariants.{Decided, Forced}
use Rattle.steps.specs.declared.Verdict.{Verdict}
use Rattle.steps.proofs.Bound.{count_of}
use Rattle.steps.proofs.Judged.{none≢some, some_inj}

clash_or_not : {A : Type 0} {m : Meaning} {set : List ℕ} → HasWorld m set → NoWorld m set → A
clash_or_not has clash = absurd (clash has.world has.is_world)

one_lowest : (n : ℕ) (set : List ℕ) (a b : ℕ) → LowestUnset n set a → LowestUnset n set b → a ≡ b
one_lowest n set a b x y =
    ⊎_elim (λ e. e)
    (⊎_elim (λ less. absurd (both_ways (names set a) x.unset (y.lowest a less))) (λ more. absurd (both_ways (names set b) y.unset (x.lowest b more))))
    (cases_order a b)

module _ (m : Meaning) (clauses : List Clause) (grant : ℕ) where
  dead_and_quiet : {A : Type 0} (t : Trail) → some_dead (codes_of t) clauses ≡ true → some_dead (codes_of t) clauses ≡ false → A
  dead_and_quiet t dead alive = absurd (both_ways (some_dead (codes_of t) clauses) alive dead)

  due_and_quiet : {A : Type 0} {t : Trail} {l : ℕ} → Due m clauses t l → Quiet m clauses t → A
  due_and_quiet d q = absurd (none≢some (sym q.none_due ∙ d.first_is_due))

  one_due : {t : Trail} {l l' : ℕ} → Due m clauses t l → Due m clauses t l' → l ≡ l'
  one_due d e = some_inj (sym d.first_is_due ∙ e.first_is_due)

  one_atom : {t : Trail} {k a b : ℕ} → Next m clauses grant t k a → Next m clauses grant t k b → a ≡ b
  one_atom {t} {k} {a} {b} x y = one_lowest m.atoms (codes_of t) a b x.lowest y.lowest

  due_clash_or_not : {A : Type 0} {t : Trail} {l l' : ℕ} → Due m clauses t l → Due m clauses t l' → HasWorld m (l ∷ codes_of t) → NoWorld m (l' ∷ codes_of t) → A
  due_clash_or_not {A} {t} d e has clash = clash_or_not (subst (λ c. HasWorld m (c ∷ codes_of t)) (one_due d e) has) clash

  next_clash_or_not : {A : Type 0} {t : Trail} {k a b : ℕ} → Next m clauses grant t k a → Next m clauses grant t k b
      → HasWorld m (2 * a ∷ codes_of t) → NoWorld m (2 * b ∷ codes_of t) → A
  next_clash_or_not {A} {t} x y has clash = clash_or_not (subst (λ a. HasWorld m (2 * a ∷ codes_of t)) (one_atom x y) has) clash

  pub one_next : {s s' s'' : Spot} → Step m clauses grant s s' → Step m clauses grant s s'' → s' ≡ s''
  one_next (fail x) (fail y) = refl
  one_next (fail {t} x) (force d has) = dead_and_quiet t x d.none_dead
  one_next (fail {t} x) (force_clash d clash) = refl
  one_next (fail {t} x) (decide n has) = dead_and_quiet t x n.quiet.none_dead
  one_next (fail {t} x) (decide_clash n clash) = dead_and_quiet t x n.quiet.none_dead
  one_next (force d has) (fail {t} y) = dead_and_quiet t y d.none_dead
  one_next (force {t} {k} d has) (force e has') = ap (λ l. looking (entry Forced l ∷ t) k) (one_due d e)
  one_next (force d has) (force_clash e clash) = due_clash_or_not d e has clash
  one_next (force d has) (decide n has') = due_and_quiet d n.quiet
  one_next (force d has) (decide_clash n clash) = due_and_quiet d n.quiet
  one_next (force_clash d clash) (fail {t} y) = refl
  one_next (force_clash d clash) (force e has) = due_clash_or_not e d has clash
  one_next (force_clash d clash) (force_clash e clash') = refl
  one_next (force_clash d clash) (decide n has') = due_and_quiet d n.quiet
  one_next (force_clash d clash) (decide_clash n clash') = due_and_quiet d n.quiet
  one_next (decide n has) (fail {t} y) = dead_and_quiet t y n.quiet.none_dead
  one_next (decide n has) (force d has') = due_and_quiet d n.quiet
  one_next (decide n has) (force_clash d clash) = due_and_quiet d n.quiet
  one_next (decide {t} {k} n has) (decide n' has') = ap (λ a. looking (entry Decided (2 * a) ∷ t) (suc k)) (one_atom n n')
  one_next (decide n has) (decide_clash n' clash) = next_clash_or_not n n' has clash
  one_next (decide_clash n clash) (fail {t} y) = dead_and_quiet t y n.quiet.none_dead
  one_next (decide_clash n clash) (force d has') = due_and_quiet d n.quiet
  one_next (decide_clash n clash) (force_clash d clash') = due_and_quiet d n.quiet
  one_next (decide_clash n clash) (decide n' has) = next_clash_or_not n' n has clash
  one_next (decide_clash {t} {k} n clash) (decide_clash n' clash') = ap (λ a. looking (entry Forced (2 * a + 1) ∷ t) (suc k)) (one_atom n n')
  one_next drop_flipped drop_flipped = refl
  one_next drop_forced drop_forced = refl
  one_next (flip has) (flip has') = refl
  one_next (flip has) (flip_clash clash) = clash_or_not has clash
  one_next (flip_clash clash) (flip has) = clash_or_not has clash
  one_next (flip_clash clash) (flip_clash clash') = refl

  set_or_not : {A : Type 0} (t : Trail) (a : ℕ) → AllSet m.atoms (codes_of t) → LowestUnset m.atoms (codes_of t) a → A
  set_or_not t a all low = absurd (both_ways (names (codes_of t) a) low.unset (all a low.there))

  pub no_next : {s s' : Spot} {v : Verdict} {k : ℕ} {t : Trail} → Ends m clauses grant s v k t → Step m clauses grant s s' → ⊥
  no_next (found {t} q all) (fail dead) = dead_and_quiet t dead q.none_dead
  no_next (found q all) (force d has) = due_and_quiet d q
  no_next (found q all) (force_clash d clash) = due_and_quiet d q
  no_next (found {t} q all) (decide {k = k} {a = a} n has) = set_or_not t a all n.lowest
  no_next (found {t} q all) (decide_clash {k = k} {a = a} n clash) = set_or_not t a all n.lowest
  no_next (paused {t} q low e) (fail dead) = dead_and_quiet t dead q.none_dead
  no_next (paused q low e) (force d has) = due_and_quiet d q
  no_next (paused q low e) (force_clash d clash) = due_and_quiet d q
  no_next (paused q low e) (decide n has) = omega (arith, e, n.granted)
  no_next (paused q low e) (decide_clash n clash) = omega (arith, e, n.granted)
  no_next none step = elim step [ ]

  one_end : {s : Spot} {v v' : Verdict} {k k' : ℕ} {t t' : Trail} → Ends m clauses grant s v k t → Ends m clauses grant s v' k' t' → SameOutcome v v' k k' t t'
  one_end (found q all) (found q' all') = record { verdicts = refl; counts = refl; trails = refl }
  one_end (found {t} q all) (paused {a = a} q' low e) = set_or_not t a all low
  one_end (paused {t} {a = a} q low e) (found q' all) = set_or_not t a all low
  one_end (paused q low e) (paused q' low' e') = record { verdicts = refl; counts = refl; trails = refl }
  one_end none none = record { verdicts = refl; counts = refl; trails = refl }

  -- steps seen from their beginning
  record First (s s'' : Spot) : Type 0 where
    second : Spot
    step : Step m clauses grant s second
    later : Steps m clauses grant second s''

  from_start : {s s'' : Spot} → Steps m clauses grant s s'' → (s ≡ s'') ⊎ First s s''
  from_start start_here = inl refl
  from_start {s} {s''} (then steps step) =
      ⊎_elim
      (λ e. inr (record { second = s''; step = subst (λ x. Step m clauses grant x s'') (sym e) step; later = start_here }))
      (λ f. inr (record { second = f.second; step = f.step; later = then f.later step }))
      (from_start steps)

  along : {s s' s'' : Spot} → Steps m clauses grant s s' → Steps m clauses grant s s'' → Steps m clauses grant s' s'' ⊎ Steps m clauses grant s'' s'
  along start_here others = inl others
  along {s} {s'} {s''} (then steps step) others =
      ⊎_elim
      (λ on.
      ⊎_elim (λ e. inr (then start_here (subst (λ x. Step m clauses grant x s') e step)))
      (λ f. inl (subst (λ x. Steps m clauses grant x s'') (sym (one_next step f.step)) f.later)) (from_start on))
      (λ back. inr (then back step))
      (along steps others)

  end_here : {s s' : Spot} {v : Verdict} {k : ℕ} {t : Trail} → Ends m clauses grant s v k t → Steps m clauses grant s s' → s ≡ s'
  end_here ends steps = ⊎_elim (λ e. e) (λ f. absurd (no_next ends f.step)) (from_start steps)

  pub one_outcome : (before : Trail) (v v' : Verdict) (k k' : ℕ) (t t' : Trail) → Runs m clauses grant before v k t → Runs m clauses grant before v' k' t'
      → SameOutcome v v' k k' t t'
  one_outcome before v v' k k' t t' r r' =
      let same : r.last ≡ r'.last = ⊎_elim (λ on. end_here r.ends on) (λ on. sym (end_here r'.ends on)) (along r.steps r'.steps) in
      one_end (subst (λ s. Ends m clauses grant s v k t) same r.ends) r'.ends

  count_steps : {s s' : Spot} (steps : Steps m clauses grant s s') → count_of s' ≡ count_of s + decisions steps
  count_steps start_here = omega arith
  count_steps (then steps (decide n has)) = omega (arith, count_steps steps)
  count_steps (then steps (decide_clash n clash)) = omega (arith, count_steps steps)
  count_steps (then steps (fail dead)) = count_steps steps
  count_steps (then steps (force d has)) = count_steps steps
  count_steps (then steps (force_clash d clash)) = count_steps steps
  count_steps (then steps drop_flipped) = count_steps steps
  count_steps (then steps drop_forced) = count_steps steps
  count_steps (then steps (flip has)) = count_steps steps
  count_steps (then steps (flip_clash clash)) = count_steps steps

  pub count_end : {s : Spot} {v : Verdict} {k : ℕ} {t : Trail} → Ends m clauses grant s v k t → k ≡ count_of s
  count_end (found q all) = refl
  count_end (paused q low e) = refl
  count_end none = refl

  pub counts_decisions : (before : Trail) (v : Verdict) (k : ℕ) (t : Trail) → (run : Runs m clauses grant before v k t) → k ≡ decisions run.steps
  counts_decisions before v k t run = omega (arith, count_end run.ends, count_steps run.steps)
