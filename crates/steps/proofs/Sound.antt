-- What every spot of a search keeps: the trail has a world and names different atoms, and numbers that satisfy all
-- clauses are still to be met on the trail or on the other side of one of its decisions.
use Rattle.std.proofs.Common.{◌≡◌, ℕ, ◌+◌, ◌*◌, ◌/◌, ◌<◌, true, false, not, ◌&&◌, ltb, ◌⊎◌, List, [], ◌∷◌, ℤ, sym, refl, ap, ◌∙◌, subst, inl, inr, ⊎_elim, arith}
use Rattle.std.proofs.lemmas.Bool.{and_parts, and_from, both_ways, cases_Bool, lt-ltb, ltb-true, not-true, not_from_false}
use Rattle.std.specs.List.{AllByRecursion}
use Rattle.theory.specs.Meaning.{Meaning, Lawful, AllHold, NoWorld, atom_of, names, different, HasWorld}
use Rattle.steps.specs.Calls.{are_atoms_below}
use Rattle.steps.specs.Clauses.{Clause, opposite, LowestUnset, Satisfies}
use Rattle.steps.specs.Steps.{Trail, Spot, looking, backing, codes_of, Due, Step, fail, force, force_clash, decide, decide_clash, drop_flipped, drop_forced, flip, flip_clash, Steps, start_here, then}
use Rattle.steps.specs.declared.Mark.{Mark}
use Rattle.steps.specs.declared.Mark.TheVariants.{Decided, Flipped, Forced}
use Rattle.steps.proofs.Judged.{none_dead_where_all_hold, first_due_holds, first_due_facts}
use Rattle.steps.proofs.Opposites.{atom_opposite, opposite_plain, opposite_holds}

abbrev pub trail_of : Spot → Trail
trail_of (looking t k) = t
trail_of (backing t k) = t

-- an atom that there is and that is not set
abbrev pub Fresh : ℕ → List ℕ → ℕ → Type 0
Fresh n set c = (atom_of c < n) × (names set (atom_of c) ≡ false)

pub different_add : (n : ℕ) (c : ℕ) (set : List ℕ) → Fresh n set c → different n set ≡ true → different n (c ∷ set) ≡ true
different_add n c set fresh d =
    and_from (ltb (atom_of c) n) (not (names set (atom_of c)) && different n set) (lt-ltb (atom_of c) n fresh.0)
    (and_from (not (names set (atom_of c))) (different n set) (not_from_false (names set (atom_of c)) fresh.1) d)

pub different_tail : (n : ℕ) (c : ℕ) (set : List ℕ) → different n (c ∷ set) ≡ true → Fresh n set c × (different n set ≡ true)
different_tail n c set d =
    let p = and_parts (ltb (atom_of c) n) (not (names set (atom_of c)) && different n set) d in
    let q = and_parts (not (names set (atom_of c))) (different n set) p.1 in
    ((ltb-true (atom_of c) n p.0, not-true (names set (atom_of c)) q.0), q.1)

pub fresh_opposite : (n : ℕ) (set : List ℕ) (c : ℕ) → Fresh n set c → Fresh n set (opposite c)
fresh_opposite n set c f = subst (λ a. (a < n) × (names set a ≡ false)) (sym (atom_opposite c)) f

pub fresh_lowest : (n : ℕ) (set : List ℕ) (a : ℕ) → LowestUnset n set a → Fresh n set (2 * a) × Fresh n set (2 * a + 1)
fresh_lowest n set a low =
    let plain : a ≡ (2 * a) / 2 = omega arith in
    let other : a ≡ (2 * a + 1) / 2 = omega arith in
    let p : (x : ℕ) → a ≡ x → (x < n) × (names set x ≡ false) = λ x e. subst (λ y. (y < n) × (names set y ≡ false)) e (low.there, low.unset) in
    (p ((2 * a) / 2) plain, p ((2 * a + 1) / 2) other)

-- fewer literals have a world too
pub fewer_have : {m : Meaning} {c : ℕ} {set : List ℕ} → HasWorld m (c ∷ set) → HasWorld m set
fewer_have h = record { world = h.world; is_world = record { whole = h.is_world.whole; all_hold = h.is_world.all_hold.1 } }

abbrev rank : Mark → ℕ
rank Decided = 0
rank Flipped = 1
rank Forced = 2

flipped≢decided : Flipped ≡ Decided → ⊥
flipped≢decided e = let z : ◌≡◌ {A = ℕ} 1 0 = ap rank e in omega (arith, z)

forced≢decided : Forced ≡ Decided → ⊥
forced≢decided e = let z : ◌≡◌ {A = ℕ} 2 0 = ap rank e in omega (arith, z)

module _ (m : Meaning) (lawful : Lawful m) where
  -- the world lies on the other side of a decision of the trail
  abbrev pub Aside : List ℤ → Trail → Type 0
  Aside w [] = ⊥
  Aside w (e ∷ t) = ((e.mark ≡ Decided) × AllHold m (codes_of t) w × (m.holds (opposite e.code) w ≡ true)) ⊎ Aside w t

  abbrev pub Met : List ℤ → Spot → Type 0
  Met w (looking t k) = AllHold m (codes_of t) w ⊎ Aside w t
  Met w (backing t k) = Aside w t

  -- where a literal clashes, its opposite does not
  pub other_side : (c : ℕ) (set : List ℕ) → Fresh m.atoms set c → HasWorld m set → NoWorld m (c ∷ set) → HasWorld m (opposite c ∷ set)
  other_side c set fresh has clash =
      let w = has.world in
      let is = has.is_world in
      ⊎_elim (λ t. absurd (clash w (record { whole = is.whole; all_hold = (t, is.all_hold) })))
      (λ f.
      record {
        world = w;
        is_world =
            record {
              whole = is.whole;
              all_hold = (opposite_holds m lawful c fresh.0 w is.whole ∙ not_from_false (m.holds c w) f, is.all_hold);
            };
      })
      (cases_Bool (m.holds c w))

  module _ (clauses : List Clause) (below : AllByRecursion (λ clause. are_atoms_below m.atoms clause ≡ true) clauses) where
    pub record Sound (s : Spot) : Type 0 where
      pub has_world : HasWorld m (codes_of (trail_of s))
      pub apart : different m.atoms (codes_of (trail_of s)) ≡ true
      pub met : (w : List ℤ) → Satisfies m clauses w → Met w s

    fresh_due : {t : Trail} {l : ℕ} → Due m clauses t l → Fresh m.atoms (codes_of t) l
    fresh_due {t} {l} d = first_due_facts m.atoms (codes_of t) clauses l below d.first_is_due

    due_met : {t : Trail} {l : ℕ} → Due m clauses t l → (w : List ℤ) → Satisfies m clauses w → AllHold m (codes_of t) w → m.holds l w ≡ true
    due_met {t} {l} d w sat hold = first_due_holds m w lawful sat.whole (codes_of t) hold clauses l below sat.all_hold d.first_is_due

    pub step_sound : {grant : ℕ} {s s' : Spot} → Step m clauses grant s s' → Sound s → Sound s'
    step_sound (fail {t} {k} dead) o =
        record {
          has_world = o.has_world;
          apart = o.apart;
          met = λ w sat. ⊎_elim
              (λ hold. absurd (both_ways _ (none_dead_where_all_hold m w lawful sat.whole (codes_of t) hold clauses below sat.all_hold) dead))
              (λ aside. aside) (o.met w sat);
        }
    step_sound (force {t} {k} {l} d has) o =
        record {
          has_world = has;
          apart = different_add m.atoms l (codes_of t) (fresh_due d) o.apart;
          met = λ w sat. ⊎_elim (λ hold. inl (due_met d w sat hold, hold)) (λ aside. inr (inr aside)) (o.met w sat);
        }
    step_sound (force_clash {t} {k} {l} d clash) o =
        record {
          has_world = o.has_world;
          apart = o.apart;
          met = λ w sat. ⊎_elim
              (λ hold. absurd (clash w (record { whole = sat.whole; all_hold = (due_met d w sat hold, hold) })))
              (λ aside. aside) (o.met w sat);
        }
    step_sound (decide {t} {k} {a} n has) o =
        let fresh = (fresh_lowest m.atoms (codes_of t) a n.lowest).0 in
        record {
          has_world = has;
          apart = different_add m.atoms (2 * a) (codes_of t) fresh o.apart;
          met = λ w sat. ⊎_elim
              (λ hold. ⊎_elim (λ yes-plain. inl (yes-plain, hold))
              (λ f. inr (inl (refl, hold, opposite_holds m lawful (2 * a) fresh.0 w sat.whole ∙ not_from_false (m.holds (2 * a) w) f)))
              (cases_Bool (m.holds (2 * a) w)))
              (λ aside. inr (inr aside)) (o.met w sat);
        }
    step_sound (decide_clash {t} {k} {a} n clash) o =
        let fresh = fresh_lowest m.atoms (codes_of t) a n.lowest in
        record {
          has_world = subst (λ c. HasWorld m (c ∷ codes_of t)) (opposite_plain a) (other_side (2 * a) (codes_of t) fresh.0 o.has_world clash);
          apart = different_add m.atoms (2 * a + 1) (codes_of t) fresh.1 o.apart;
          met = λ w sat. ⊎_elim
              (λ hold. ⊎_elim (λ plain. absurd (clash w (record { whole = sat.whole; all_hold = (plain, hold) })))
              (λ f. inl (subst (λ c. m.holds c w ≡ true) (opposite_plain a) (opposite_holds m lawful (2 * a) fresh.0.0 w sat.whole ∙ not_from_false (m.holds (2 * a) w) f), hold))
              (cases_Bool (m.holds (2 * a) w)))
              (λ aside. inr (inr aside)) (o.met w sat);
        }
    step_sound (drop_flipped {t} {k} {l}) o =
        record {
          has_world = fewer_have o.has_world;
          apart = (different_tail m.atoms l (codes_of t) o.apart).1;
          met = λ w sat. ⊎_elim (λ decided. absurd (flipped≢decided decided.0)) (λ aside. aside) (o.met w sat);
        }
    step_sound (drop_forced {t} {k} {l}) o =
        record {
          has_world = fewer_have o.has_world;
          apart = (different_tail m.atoms l (codes_of t) o.apart).1;
          met = λ w sat. ⊎_elim (λ decided. absurd (forced≢decided decided.0)) (λ aside. aside) (o.met w sat);
        }
    step_sound (flip {t} {k} {l} has) o =
        let p = different_tail m.atoms l (codes_of t) o.apart in
        record {
          has_world = has;
          apart = different_add m.atoms (opposite l) (codes_of t) (fresh_opposite m.atoms (codes_of t) l p.0) p.1;
          met = λ w sat. ⊎_elim (λ decided. inl (decided.2, decided.1)) (λ aside. inr (inr aside)) (o.met w sat);
        }
    step_sound (flip_clash {t} {k} {l} clash) o =
        record {
          has_world = fewer_have o.has_world;
          apart = (different_tail m.atoms l (codes_of t) o.apart).1;
          met = λ w sat. ⊎_elim
              (λ decided. absurd (clash w (record { whole = sat.whole; all_hold = (decided.2, decided.1) })))
              (λ aside. aside) (o.met w sat);
        }

    pub steps_sound : {grant : ℕ} {s s' : Spot} → Steps m clauses grant s s' → Sound s → Sound s'
    steps_sound start_here o = o
    steps_sound (then steps step) o = step_sound step (steps_sound steps o)
