-- What the difference theory shows of its limits: in every world exactly one of a literal and its opposite holds, and the latest
-- times meet the limits wherever any times do. These are proofs; nothing in them has to be believed.
use Rattle.std.specs.Prelude.{◌≡◌, ℕ, ◌+◌, ◌*◌, ◌%◌, ◌<◌, true, false, cond, not, List, ℤ, pos, negsuc, ◌-ℤ◌, neg_ℤ, ◌≤ℤ◌, int_le, ◌==◌, refl}
use Rattle.std.proofs.Common.{sym, ap, ◌∙◌, arith}
use Rattle.std.specs.List.{AllByRecursion}
use Rattle.std.proofs.ByRecursion.{All-weaker}
use Rattle.std.proofs.lemmas.Int.{ints}
use Rattle.std.proofs.lemmas.Bool.{cond_both, eq-eqb, ne_eqb, not-true, not_from_false}
use Rattle.std.proofs.lemmas.Bool.Decides.{nat_tests}
use Rattle.tables.specs.declared.DifferenceEntry.{DifferenceEntry}
use Rattle.tables.specs.Entries.{difference_fits, difference_check, all_entries_fit}
use Rattle.relaxing.specs.declared.Limit.{Limit}
use Rattle.relaxing.specs.Limits.{at, Met, Fits, moves, latest}
use Rattle.relaxing.proofs.Finding.{latest_when_still, latest_from_met, length_latest}
use Rattle.relaxing.proofs.Passes.{met_still}
use Rattle.table_theory.specs.Drawing.{record_of, records_of, AllRecordsHold, ProcedureLaws}
use Rattle.table_theory.specs.Laws as laws
use Rattle.theory.proofs.Drawn.{all_records}
use Rattle.theory.specs.Meaning.{Lawful, WorldOf, AllHold}
use Rattle.difference.specs.Differences.{spare_entry, entry_limit, limit_holds, have_times, difference_meaning, LatestWorld, codes_of}

-- What a limit says is what its literal means.

le_true : (x y : ℤ) → x ≤ℤ y → int_le x y ≡ true
le_true x y h = grind (arith, ints)

true_le : (x y : ℤ) → int_le x y ≡ true → x ≤ℤ y
true_le x y h = grind (arith, ints)

-- the opposite of x - y ≤ k is y - x ≤ -k - 1
opposite_limit : (x y k : ℤ) → int_le (y -ℤ x) (neg_ℤ k -ℤ pos 1) ≡ not (int_le (x -ℤ y) k)
opposite_limit x y k = grind (arith, ints)

met_holds : (l : Limit) (world : List ℤ) → Met world l → limit_holds l world ≡ true
met_holds l world m = le_true (at world l.a -ℤ at world l.b) l.weight m

pub holds_met : (l : Limit) (world : List ℤ) → limit_holds l world ≡ true → Met world l
holds_met l world h = true_le (at world l.a -ℤ at world l.b) l.weight h

all_met : (limits : List Limit) (world : List ℤ) → AllRecordsHold limit_holds limits world → AllByRecursion (Met world) limits
all_met limits world h = All-weaker (λ l. limit_holds l world ≡ true) (Met world) (λ l. holds_met l world) limits h

-- the literals of an atom, by the entry that they are of
plain_limit : (e : DifferenceEntry) (code : ℕ) → code % 2 ≡ 0 → entry_limit e code ≡ record { code = code; a = e.a; b = e.b; weight = e.limit }
plain_limit e code h =
    ap
    (λ t. cond t
    (record { code = code; a = e.a; b = e.b; weight = e.limit })
    (record { code = code; a = e.b; b = e.a; weight = neg_ℤ e.limit -ℤ pos 1 }))
    (eq-eqb (code % 2) 0 h)

flipped_limit : (e : DifferenceEntry) (code : ℕ) → code % 2 ≡ 1
    → entry_limit e code ≡ record { code = code; a = e.b; b = e.a; weight = neg_ℤ e.limit -ℤ pos 1 }
flipped_limit e code h =
    ap
    (λ t. cond t
    (record { code = code; a = e.a; b = e.b; weight = e.limit })
    (record { code = code; a = e.b; b = e.a; weight = neg_ℤ e.limit -ℤ pos 1 }))
    (ne_eqb (code % 2) 0 (λ z. omega arith))

one_of_two : (e : DifferenceEntry) (a : ℕ) (world : List ℤ)
    → limit_holds (entry_limit e (2 * a + 1)) world ≡ not (limit_holds (entry_limit e (2 * a)) world)
one_of_two e a world =
    ap (λ l. limit_holds l world) (flipped_limit e (2 * a + 1) (omega arith))
    ∙ opposite_limit (at world e.a) (at world e.b) e.limit
    ∙ ap (λ l. not (limit_holds l world)) (sym (plain_limit e (2 * a) (omega arith)))

-- Entries that fit give limits that fit.

entry_facts : (variables a b : ℕ) (k : ℤ) → difference_fits variables (record { a = a; b = b; limit = k }) ≡ true
    → (a < variables) × (b < variables) × (negsuc 999999 ≤ℤ k) × (k ≤ℤ pos 1000000)
entry_facts variables a b k h = (grind (arith, nat_tests), grind (arith, nat_tests), grind (arith, nat_tests, ints), grind (arith, nat_tests, ints))

limit_fits : (variables : ℕ) (e : DifferenceEntry) (code : ℕ) → difference_fits variables e ≡ true → Fits variables (entry_limit e code)
limit_fits variables e code h =
    let f = entry_facts variables e.a e.b e.limit h in
    cond_both (code % 2 == 0)
    (record { code = code; a = e.a; b = e.b; weight = e.limit })
    (record { code = code; a = e.b; b = e.a; weight = neg_ℤ e.limit -ℤ pos 1 })
    (Fits variables)
    (λ _. record { a_below = f.0; b_below = f.1; low = omega (arith, ints, f.2); high = omega (arith, ints, f.3) })
    (λ _. record { a_below = f.1; b_below = f.0; low = omega (arith, ints, f.3); high = omega (arith, ints, f.2) })

code_of : (e : DifferenceEntry) (code : ℕ) → (entry_limit e code).code ≡ code
code_of e code =
    cond_both {A = Limit} (code % 2 == 0)
    (record { code = code; a = e.a; b = e.b; weight = e.limit })
    (record { code = code; a = e.b; b = e.a; weight = neg_ℤ e.limit -ℤ pos 1 })
    (λ l. l.code ≡ code)
    (λ _. refl) (λ _. refl)

-- The latest times.

still : (limits : List Limit) (variables : ℕ) → have_times limits variables ≡ true → moves limits (latest limits variables) ≡ false
still limits variables h = not-true (moves limits (latest limits variables)) h

pub limit_laws : ProcedureLaws difference_check (λ (l : Limit). l.code) entry_limit Fits limit_holds have_times latest
limit_laws =
    record {
      asked_code = code_of;
      asked_fits = limit_fits;
      one_of_two = one_of_two;
      whole = length_latest;
      sound = λ limits variables h.
          All-weaker (Met (latest limits variables)) (λ l. limit_holds l (latest limits variables) ≡ true) (λ l. met_holds l (latest limits variables)) limits
          (latest_when_still limits variables (still limits variables h)).met;
      complete = λ limits variables fit world whole h.
          not_from_false (moves limits (latest limits variables))
          (met_still limits (latest limits variables) (latest_from_met limits variables fit world (all_met limits world h)).met);
    }

pub latest_world : (variables : ℕ) (table : List DifferenceEntry) (limits : List Limit)
    → limits ≡ records_of entry_limit spare_entry table (codes_of limits) → AllByRecursion (Fits variables) limits → have_times limits variables ≡ true
    → LatestWorld (difference_meaning variables table) (codes_of limits) (latest limits variables)
latest_world variables table limits drawn fit h =
    let l = latest_when_still limits variables (still limits variables h) in
    record {
      is_world = laws.worldly limit_laws spare_entry variables table limits drawn h;
      not_above = l.not_above;
      latest_of_all = λ other w n x short.
          l.latest_of_all other (w.whole ∙ sym (length_latest limits variables)) n
          (all_met limits other (all_records (λ (l : Limit). l.code) (record_of entry_limit spare_entry table) limits drawn (λ l. limit_holds l other ≡ true) w.all_hold))
          x short;
    }

-- The interface's laws, over limits and their latest times.

pub lawful : (variables : ℕ) (table : List DifferenceEntry) → all_entries_fit difference_fits variables table ≡ true → Lawful (difference_meaning variables table)
lawful variables table h = laws.lawful limit_laws spare_entry variables table h

module _ (variables : ℕ) (table : List DifferenceEntry) (limits : List Limit) (drawn : limits ≡ records_of entry_limit spare_entry table (codes_of limits)) where
  -- a world that meets the set limits is one of the set literals
  pub all_hold : (world : List ℤ) → AllByRecursion (Met world) limits → AllHold (difference_meaning variables table) (codes_of limits) world
  all_hold world m =
      laws.all_hold limit_laws spare_entry variables table limits drawn world (All-weaker (Met world) (λ l. limit_holds l world ≡ true) (λ l. met_holds l world) limits m)

  -- the latest times are a world of the set literals
  pub worldly : moves limits (latest limits variables) ≡ false
      → WorldOf (difference_meaning variables table) (codes_of limits) (latest limits variables)
  worldly h = laws.worldly limit_laws spare_entry variables table limits drawn (not_from_false (moves limits (latest limits variables)) h)
