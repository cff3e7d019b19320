-- The step list of the search, one constructor for each rule and each way that it can go.
use Rattle.std.specs.Prelude.{◌≡◌, ℕ, suc, ◌+◌, ◌*◌, ◌<◌, true, false, List, [], ◌∷◌, map, Some, None}
use Rattle.theory.specs.Meaning.{Meaning, NoWorld, HasWorld}
use Rattle.steps.specs.Clauses.{Clause, opposite, some_dead, first_due, AllSet, LowestUnset}
use Rattle.steps.specs.declared.Entry.{Entry}
use Rattle.steps.specs.declared.Mark.{Mark}
use Rattle.steps.specs.declared.Mark.TheVariants.{Decided, Flipped, Forced}
use Rattle.steps.specs.declared.Verdict.{Verdict}
use Rattle.steps.specs.declared.Verdict.TheVariants.{Found, NoneExist, Paused}

-- The set literals with their marks, newest first.
abbrev pub Trail : Type 0
Trail = List Entry

abbrev pub codes_of : Trail → List ℕ
codes_of = map (λ e. e.code)

abbrev pub entry : Mark → ℕ → Entry
entry mark code = record { code = code; mark = mark }

-- Where a search stands, with the decisions counted: looking for the next rule, or backing up.
pub data Spot : Type 0 where
  looking : Trail → ℕ → Spot
  backing : Trail → ℕ → Spot

module _ (m : Meaning) (clauses : List Clause) where
  -- rules 1 and 2 do not apply
  pub record Quiet (trail : Trail) : Type 0 where
    pub none_dead : some_dead (codes_of trail) clauses ≡ false
    pub none_due : first_due (codes_of trail) clauses ≡ None

  -- the due literal that rule 2 sets
  pub record Due (trail : Trail) (literal : ℕ) : Type 0 where
    pub none_dead : some_dead (codes_of trail) clauses ≡ false
    pub first_is_due : first_due (codes_of trail) clauses ≡ Some literal

  -- the atom that rule 5 sets
  pub record Next (grant : ℕ) (trail : Trail) (count atom : ℕ) : Type 0 where
    pub quiet : Quiet trail
    pub lowest : LowestUnset m.atoms (codes_of trail) atom
    pub granted : count < grant

  pub data Step (grant : ℕ) : Spot → Spot → Type 0 where
    -- 1: some clause has every literal false
    fail : {t : Trail} {k : ℕ} → some_dead (codes_of t) clauses ≡ true → Step grant (looking t k) (backing t k)
    -- 2: the first due literal is set, or clashes
    force : {t : Trail} {k l : ℕ} → Due t l → HasWorld m (l ∷ codes_of t) → Step grant (looking t k) (looking (entry Forced l ∷ t) k)
    force_clash : {t : Trail} {k l : ℕ} → Due t l → NoWorld m (l ∷ codes_of t) → Step grant (looking t k) (backing t k)
    -- 5: the lowest unset atom's plain literal is set; on a clash its opposite
    decide : {t : Trail} {k a : ℕ} → Next grant t k a → HasWorld m (2 * a ∷ codes_of t)
        → Step grant (looking t k) (looking (entry Decided (2 * a) ∷ t) (suc k))
    decide_clash : {t : Trail} {k a : ℕ} → Next grant t k a → NoWorld m (2 * a ∷ codes_of t)
        → Step grant (looking t k) (looking (entry Forced (2 * a + 1) ∷ t) (suc k))
    -- backing up: entries come off until a decided one has come off, whose opposite is set, or clashes
    drop_flipped : {t : Trail} {k l : ℕ} → Step grant (backing (entry Flipped l ∷ t) k) (backing t k)
    drop_forced : {t : Trail} {k l : ℕ} → Step grant (backing (entry Forced l ∷ t) k) (backing t k)
    flip : {t : Trail} {k l : ℕ} → HasWorld m (opposite l ∷ codes_of t)
        → Step grant (backing (entry Decided l ∷ t) k) (looking (entry Flipped (opposite l) ∷ t) k)
    flip_clash : {t : Trail} {k l : ℕ} → NoWorld m (opposite l ∷ codes_of t) → Step grant (backing (entry Decided l ∷ t) k) (backing t k)

  -- where a search ends: verdict, count and trail
  pub data Ends (grant : ℕ) : Spot → Verdict → ℕ → Trail → Type 0 where
    -- 3: no atom is unset
    found : {t : Trail} {k : ℕ} → Quiet t → AllSet m.atoms (codes_of t) → Ends grant (looking t k) Found k t
    -- 4: an atom is unset, and the count equals the grant
    paused : {t : Trail} {k a : ℕ} → Quiet t → LowestUnset m.atoms (codes_of t) a → k ≡ grant → Ends grant (looking t k) Paused k t
    -- no decided entry is left to back up to
    none : {k : ℕ} → Ends grant (backing [] k) NoneExist k []

  -- steps one after another
  pub data Steps (grant : ℕ) (start : Spot) : Spot → Type 0 where
    start_here : Steps grant start start
    then : {s s' : Spot} → Steps grant start s → Step grant s s' → Steps grant start s'

  -- A search, or a resumption, from a trail: its verdict, its count and the trail that it leaves.
  pub record Runs (grant : ℕ) (before : Trail) (verdict : Verdict) (count : ℕ) (after : Trail) : Type 0 where
    pub last : Spot
    pub steps : Steps grant (looking before 0) last
    pub ends : Ends grant last verdict count after

-- how many of the steps are rule 5's
abbrev pub decisions : {m : Meaning} {clauses : List Clause} {grant : ℕ} {s s' : Spot} → Steps m clauses grant s s' → ℕ
decisions start_here = 0
decisions (then steps (decide _ _)) = suc (decisions steps)
decisions (then steps (decide_clash _ _)) = suc (decisions steps)
decisions (then steps (fail _)) = decisions steps
decisions (then steps (force _ _)) = decisions steps
decisions (then steps (force_clash _ _)) = decisions steps
decisions (then steps drop_flipped) = decisions steps
decisions (then steps drop_forced) = decisions steps
decisions (then steps (flip _)) = decisions steps
decisions (then steps (flip_clash _)) = decisions steps
