-- What the loop of `fill` keeps: the entries written and those of the fields still to be read are together all the entries,
-- and the bytes behind those fields are the bytes behind all the fields.
use Rattle.std.proofs.Common.{◌≡◌, ℕ, zero, suc, ◌+◌, ◌*◌, ◌<◌, ◌≤◌, List, ◌++◌, length, take, drop, set, sym, refl, ap, ◌∙◌, arith, suc-mul, eqb, cond, Ok, Err}
use Rattle.std.proofs.lemmas.Bool.{eq-eqb}
use Rattle.std.proofs.lemmas.List.{append-nil, append_assoc, take_more_set, take_all, drop-drop}
use Rattle.refusals.specs.declared.Refusal.TheVariants.{WrongLength}
use Rattle.question_file.specs.Tables.{Long, entries}

module _ {E : Type 0} (size : ℕ) (said : List ℕ → E) (count : ℕ) (fields : List ℕ) where
  pub record Filling (i : ℕ) (rest : List ℕ) (places : List E) : Type 0 where
    pub left : ℕ
    pub sum : i + left ≡ count
    pub long : Long size left rest
    pub whole : take i places ++ entries size said left rest ≡ entries size said count fields
    pub behind : drop (left * (3 + size)) rest ≡ drop (count * (3 + size)) fields

  pub filling_start : (places : List E) → Long size count fields → Filling 0 fields places
  filling_start places l = record { left = count; sum = omega arith; long = l; whole = refl; behind = refl }

  module _ {i : ℕ} {rest : List ℕ} {places : List E} (f : Filling i rest places) where
    pub filling_long : i < count → 3 + size ≤ length rest
    filling_long h = go f.left f.sum f.long
      where
        go : (left : ℕ) → i + left ≡ count → Long size left rest → 3 + size ≤ length rest
        go zero s l = absurd (omega arith)
        go (suc left) s l = l.0

    pub filling_more : i < count → i < length places → (body behind : List ℕ) (entry : E) → body ≡ take size (drop 3 rest)
        → behind ≡ drop size (drop 3 rest) → entry ≡ said body → Filling (i + 1) behind (set places i entry)
    filling_more h in_places body behind entry b r e = go f.left f.sum f.long f.whole f.behind
      where
        go : (left : ℕ) → i + left ≡ count → Long size left rest → take i places ++ entries size said left rest ≡ entries size said count fields
            → drop (left * (3 + size)) rest ≡ drop (count * (3 + size)) fields
            → Filling (i + 1) behind (set places i entry)
        go zero s l w d = absurd (omega arith)
        go (suc left) s l w d =
            record {
              left = left;
              sum = omega arith;
              long = rw r l.1;
              whole = rw (take_more_set places i entry in_places, append_assoc, e, b, r) w;
              behind = rw r (simp drop-drop (ap (λ n. drop n rest) (omega (arith, suc-mul left (3 + size))) ∙ d));
            }

    pub filling_end : count ≤ i → length places ≡ count
        → (places ≡ entries size said count fields) × (rest ≡ drop (count * (3 + size)) fields)
    filling_end h all = go f.left f.sum f.whole f.behind
      where
        go : (left : ℕ) → i + left ≡ count → take i places ++ entries size said left rest ≡ entries size said count fields
            → drop (left * (3 + size)) rest ≡ drop (count * (3 + size)) fields
            → (places ≡ entries size said count fields) × (rest ≡ drop (count * (3 + size)) fields)
        go zero s w d = (sym (take_all i places (omega arith)) ∙ sym (append-nil (take i places)) ∙ w, ap (λ n. drop n rest) {x = 0} (omega arith) ∙ d)
        go (suc left) s w d = absurd (omega arith)

-- a body of the right length is read
pub from_sized : {E : Type 0} {entry x : E} (m n : ℕ) → m ≡ n → Ok entry ≡ cond (eqb m n) (Ok x) (Err WrongLength) → entry ≡ x
from_sized m n s h = let t = eq-eqb m n s in cc
