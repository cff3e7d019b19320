-- The rules, as the parts of the search carry them out.
use Rattle.std.proofs.Common.{◌≡◌, ℕ, suc, ◌+◌, ◌*◌, Bool, true, false, ◌⊎◌, List, [], ◌∷◌, MatchBool, sym, ap, ◌∙◌, subst, refl, inl, inr, arith}
use Rattle.std.proofs.lemmas.Grind.{common_steps}
use Rattle.clauses.specs.Standing.{can_set}
use Rattle.steps.specs.Clauses.{Clause, opposite, LowestUnset}
use Rattle.steps.specs.Steps.{Trail, looking, backing, codes_of, entry, Step, decide, decide_clash, flip, flip_clash, drop_flipped, drop_forced, Steps, start_here, then}
use Rattle.steps.specs.declared.Entry.{Entry}
use Rattle.steps.specs.declared.Mark.{Mark}
use Rattle.steps.specs.declared.Mark.TheVariants.{Decided, Flipped, Forced}
use Rattle.steps.proofs.Opposites.{opposite_plain, atom_opposite}
use Rattle.steps.proofs.Sound.{Fresh, fresh_lowest, other_side}
use Rattle.theory.specs.Meaning.{Meaning, Lawful, NoWorld, HasWorld}
use Rattle.question.specs.Turns.{Added, Rejected, OtherSide, Dropped, BackedUp, Exhausted, DecidedBy}

marked : (e : Entry) (mark : Mark) → e.mark ≡ mark → e ≡ entry mark e.code
marked e mark is = ap (λ m. entry m e.code) is

-- whether a literal can be set is a matter of its atom
pub fresh_can_set : (n : ℕ) (set : List ℕ) (c : ℕ) → Fresh n set c → can_set n set c ≡ true
fresh_can_set n set c f = grind (arith, common_steps)

pub can_set_opposite : (n : ℕ) (set : List ℕ) (c o : ℕ) → o ≡ opposite c → can_set n set c ≡ true → can_set n set o ≡ true
can_set_opposite n set c o is h = let e = atom_opposite c in grind (arith, common_steps)

module _ (m : Meaning) (e : Entry) (trail trail' : Trail) where
  pub flipped_by : (r : Bool) (o : ℕ) → o ≡ opposite e.code → e.mark ≡ Decided → MatchBool r (Added m trail o Flipped trail') (Rejected m trail o trail')
      → MatchBool r (OtherSide m e trail trail') (Dropped m e trail trail')
  flipped_by true o is decided a =
      record {
        step =
            λ clauses grant count.
            subst (λ x. Step m clauses grant (backing (x ∷ trail) count) (looking trail' count)) (sym (marked e Decided decided))
            (subst (λ t. Step m clauses grant (backing (entry Decided e.code ∷ trail) count) (looking t count)) (sym (a.grown ∙ ap (λ c. entry Flipped c ∷ trail) is))
            (flip (subst (λ c. HasWorld m (c ∷ codes_of trail)) is a.has_world)));
      }
  flipped_by false o is decided a =
      record {
        step =
            λ clauses grant count.
            subst (λ x. Step m clauses grant (backing (x ∷ trail) count) (backing trail count)) (sym (marked e Decided decided))
            (flip_clash (subst (λ c. NoWorld m (c ∷ codes_of trail)) is a.no_world));
        unchanged = a.unchanged;
      }

-- an entry that was not decided comes off
pub not_decided : (m : Meaning) (e : Entry) (trail : Trail) → (e.mark ≡ Flipped) ⊎ (e.mark ≡ Forced) → Dropped m e trail trail
not_decided m e trail (inl is) =
    record { step = λ clauses grant count. subst (λ x. Step m clauses grant (backing (x ∷ trail) count) (backing trail count)) (sym (marked e Flipped is)) drop_flipped; unchanged = refl }
not_decided m e trail (inr is) =
    record { step = λ clauses grant count. subst (λ x. Step m clauses grant (backing (x ∷ trail) count) (backing trail count)) (sym (marked e Forced is)) drop_forced; unchanged = refl }

-- rule 5
module _ (m : Meaning) (trail : Trail) (atom : ℕ) where
  pub decided_plain : (trail' : Trail) → Added m trail (2 * atom) Decided trail' → DecidedBy m trail atom trail'
  decided_plain trail' a =
      record { step = λ clauses grant count next. subst (λ t. Step m clauses grant (looking trail count) (looking t (suc count))) (sym a.grown) (decide next a.has_world) }

  -- a literal clashed, and its opposite is tried
  module _ (m₁ : Meaning) (trail₁ trail' : Trail) (same : m₁ ≡ m) (r : Rejected m trail (2 * atom) trail₁) where
    pub decided_other : Added m₁ trail₁ (2 * atom + 1) Forced trail' → DecidedBy m trail atom trail'
    decided_other a =
        record {
          step =
              λ clauses grant count next.
              subst (λ t. Step m clauses grant (looking trail count) (looking t (suc count))) (sym (a.grown ∙ ap (λ t. entry Forced (2 * atom + 1) ∷ t) r.unchanged))
              (decide_clash next r.no_world);
        }

    -- not both clash
    pub not_both_clash : Lawful m → LowestUnset m.atoms (codes_of trail) atom → HasWorld m (codes_of trail) → Rejected m₁ trail₁ (2 * atom + 1) trail' → ⊥
    not_both_clash lawful low has r' =
        let other = other_side m lawful (2 * atom) (codes_of trail) (fresh_lowest m.atoms (codes_of trail) atom low).0 has r.no_world in
        let world = subst (λ c. HasWorld m (c ∷ codes_of trail)) (opposite_plain atom) other in
        let no : NoWorld m ((2 * atom + 1) ∷ codes_of trail) = subst (λ t. NoWorld m ((2 * atom + 1) ∷ codes_of t)) r.unchanged (subst (λ (n : Meaning). NoWorld n ((2 * atom + 1) ∷ codes_of trail₁)) same r'.no_world) in
        no world.world world.is_world

-- backing up, entry by entry
module _ (m : Meaning) (start : Trail) where
  pub record Backing (trail : Trail) : Type 0 where
    pub steps : (clauses : List Clause) (grant count : ℕ) → Steps m clauses grant (backing start count) (backing trail count)

  pub backing_start : Backing start
  backing_start = record { steps = λ clauses grant count. start_here }

  module _ (trail below : Trail) (e : Entry) (is : trail ≡ e ∷ below) (b : Backing trail) (m₁ : Meaning) (same : m₁ ≡ m) (trail' : Trail) where
    on : (clauses : List Clause) (grant count : ℕ) → Steps m clauses grant (backing start count) (backing (e ∷ below) count)
    on clauses grant count = subst (λ t. Steps m clauses grant (backing start count) (backing t count)) is (b.steps clauses grant count)

    pub backing_on : Dropped m₁ e below trail' → Backing trail'
    backing_on d₁ =
        let d = subst (λ (n : Meaning). Dropped n e below trail') same d₁ in
        record { steps = λ clauses grant count. subst (λ t. Steps m clauses grant (backing start count) (backing t count)) (sym d.unchanged) (then (on clauses grant count) (d.step clauses grant count)) }

    pub backed_up : OtherSide m₁ e below trail' → BackedUp m start trail'
    backed_up o₁ =
        let o = subst (λ (n : Meaning). OtherSide n e below trail') same o₁ in
        record { steps = λ clauses grant count. then (on clauses grant count) (o.step clauses grant count) }

  pub exhausted : (trail trail' : Trail) → trail ≡ [] → trail' ≡ [] → Backing trail → Exhausted m start trail'
  exhausted trail trail' none_left empty b =
      record { steps = λ clauses grant count. subst (λ t. Steps m clauses grant (backing start count) (backing t count)) none_left (b.steps clauses grant count); empty = empty }
