-- Flags for the codes of set literals, as literals are put on and taken off.
use Rattle.std.proofs.Common.{◌≡◌, ℕ, ◌+◌, ◌*◌, ◌<◌, ◌≤◌, Bool, true, false, ◌||◌, ltb, List, [], ◌∷◌, ◌++◌, reverse, length, get_or, set, replicate, refl, ap, ◌∙◌, arith, length-set}
use Rattle.std.proofs.lemmas.List.FromFn.{get_or-map-range_with_len, length-map-range_with_len, fill_by_all}
use Rattle.std.proofs.lemmas.List.{get_or_read_under, length-replicate, reverse-append, length-map}
use Rattle.std.proofs.lemmas.Bool.Decides.{nat_tests}
use Rattle.std.proofs.lemmas.Grind.{common_steps}
use Rattle.steps.specs.Clauses.{opposite}
use Rattle.steps.specs.Steps.{Trail, codes_of}
use Rattle.steps.specs.declared.Entry.{Entry}
use Rattle.steps.proofs.Judged.{has_names, names_has}
use Rattle.steps.proofs.Sound.{different_add, different_tail}
use Rattle.theory.specs.Meaning.{atom_of, has, names, different}
use Rattle.theory.proofs.Apart.{different_few}
use Rattle.clauses.specs.Standing.{Kept, flags_of, can_set}

pub flag_at : (atoms : ℕ) (codes : List ℕ) (c : ℕ) → c < 2 * atoms → get_or (flags_of atoms codes) c false ≡ has codes c
flag_at atoms codes c h = get_or-map-range_with_len (has codes) 0 (2 * atoms) c c false h (omega arith)

pub length_flags : (atoms : ℕ) (codes : List ℕ) → length (flags_of atoms codes) ≡ 2 * atoms
length_flags atoms codes = length-map-range_with_len (has codes) 0 (2 * atoms)

-- no set literal is of an atom that is not there
pub has_beyond : (atoms : ℕ) (codes : List ℕ) (c : ℕ) → different atoms codes ≡ true → 2 * atoms ≤ c → has codes c ≡ false
has_beyond atoms [] c d h = refl
has_beyond atoms (x ∷ codes) c d h =
    let p = different_tail atoms x codes d in
    let i = has_beyond atoms codes c p.1 h in
    grind (arith, nat_tests, p)

pub flags_push : (atoms : ℕ) (codes : List ℕ) (c : ℕ) → c < 2 * atoms → set (flags_of atoms codes) c true ≡ flags_of atoms (c ∷ codes)
flags_push atoms codes c h =
    fill_by_all (has (c ∷ codes)) (set (flags_of atoms codes) c true) (2 * atoms) false (length-set (flags_of atoms codes) c true ∙ length_flags atoms codes)
    (λ k l. grind (arith, common_steps, nat_tests, flag_at atoms codes k, length_flags atoms codes))

pub flags_pop : (atoms : ℕ) (codes : List ℕ) (c : ℕ) → c < 2 * atoms → has codes c ≡ false → set (flags_of atoms (c ∷ codes)) c false ≡ flags_of atoms codes
flags_pop atoms codes c h gone =
    let flags = flags_of atoms (c ∷ codes) in
    fill_by_all (has codes) (set flags c false) (2 * atoms) false (length-set flags c false ∙ length_flags atoms (c ∷ codes))
    (λ k l. grind (arith, common_steps, nat_tests, flag_at atoms (c ∷ codes) k, length_flags atoms (c ∷ codes)))

-- a literal that is not there is not set, nor is its atom's other one
pub can_set_is : (atoms : ℕ) (codes : List ℕ) (c : ℕ) → has codes c ≡ false → has codes (opposite c) ≡ false → can_set atoms codes c ≡ ltb (atom_of c) atoms
can_set_is atoms codes c h o = let u = names_has codes c h o in grind (arith, nat_tests, u)

pub can_set_facts : (atoms : ℕ) (codes : List ℕ) (c : ℕ) → can_set atoms codes c ≡ true → (atom_of c < atoms) × (names codes (atom_of c) ≡ false)
can_set_facts atoms codes c h = grind (arith, nat_tests)

-- with nothing set no flag is raised
pub kept_none : (atoms room : ℕ) → atoms ≤ room → Kept atoms room [] (replicate (2 * atoms) false)
kept_none atoms room r = record {
  room = r;
  apart = refl;
  flagged = fill_by_all (has []) (replicate (2 * atoms) false) (2 * atoms) false (length-replicate (2 * atoms) false) (λ k l. grind (arith, common_steps));
}

module _ {atoms room : ℕ} {trail : Trail} {flags : List Bool} (kept : Kept atoms room trail flags) where
  pub flags_long : length flags ≡ 2 * atoms
  flags_long = ap length kept.flagged ∙ length_flags atoms (codes_of trail)

  -- what a flag that was read says
  pub flag_read : {n : ℕ} {x : Bool} (c : ℕ) → n ≡ length flags → c < n → x ≡ get_or flags c x → x ≡ has (codes_of trail) c
  flag_read {n} {x} c long h read =
      get_or_read_under flags c n x false read h long
      ∙ ap (λ fs. get_or fs c false) kept.flagged
      ∙ flag_at atoms (codes_of trail) c (omega (arith, flags_long))

  pub flag_beyond : (c : ℕ) → length flags ≤ c → has (codes_of trail) c ≡ false
  flag_beyond c h = has_beyond atoms (codes_of trail) c kept.apart (omega (arith, flags_long))

  module _ (e : Entry) (free : can_set atoms (codes_of trail) e.code ≡ true) where
    -- there is room for one more
    pub room_left : length trail < atoms
    room_left = grind (
      arith,
      nat_tests,
      different_few atoms (e.code ∷ codes_of trail),
      kept.apart,
      length-map trail (λ (e : Entry). e.code),
    )

    pub kept_push : (room' : ℕ) → room ≤ room' → Kept atoms room' (e ∷ trail) (set flags e.code true)
    kept_push room' r =
        let f = can_set_facts atoms (codes_of trail) e.code free in record {
          room = omega (arith, kept.room);
          apart = different_add atoms e.code (codes_of trail) f kept.apart;
          flagged = ap (λ fs. set fs e.code true) kept.flagged ∙ flags_push atoms (codes_of trail) e.code (omega (arith, f.0));
        }

-- the newest entry is the last of those kept
pub last_is_newest : {atoms room : ℕ} (xs : Trail) {ys : Trail} {flags : List Bool} {e : Entry} → Kept atoms room (reverse ys) flags → ys ≡ xs ++ (e ∷ []) → Kept atoms room (e ∷ reverse xs) flags
last_is_newest xs kept is = rw (is, reverse-append) at kept

-- what holds after the newest literal is taken off
module _ {atoms room : ℕ} {trail : Trail} {flags : List Bool} {e : Entry} (kept : Kept atoms room (e ∷ trail) flags) where
  newest_facts : ((atom_of e.code < atoms) × (names (codes_of trail) (atom_of e.code) ≡ false)) × (different atoms (codes_of trail) ≡ true)
  newest_facts = different_tail atoms e.code (codes_of trail) kept.apart

  pub newest_there : e.code < 2 * atoms
  newest_there = let f = newest_facts.0.0 in omega arith

  -- an atom is named once, so the literal is set no more
  pub newest_free : can_set atoms (codes_of trail) e.code ≡ true
  newest_free = let f = newest_facts in grind (arith, nat_tests)

  newest_gone : has (codes_of trail) e.code ≡ false
  newest_gone = grind (arith, newest_facts, has_names (codes_of trail) e.code)

  pub kept_pop : (room' : ℕ) → room ≤ room' → Kept atoms room' trail (set flags e.code false)
  kept_pop room' r = record {
    room = omega (arith, kept.room);
    apart = newest_facts.1;
    flagged = ap (λ fs. set fs e.code false) kept.flagged ∙ flags_pop atoms (codes_of trail) e.code newest_there newest_gone;
  }

-- an atom is named where its literal or the opposite is set
pub names_either : (codes : List ℕ) (a : ℕ) → names codes a ≡ (has codes (2 * a) || has codes (2 * a + 1))
names_either [] a = refl
names_either (x ∷ codes) a = let i = names_either codes a in grind (arith, nat_tests)
