-- The bodies of fields, from bytes to what they say and back.
use Rattle.std.proofs.Common.{◌≡◌, ℕ, zero, suc, ◌+◌, ◌*◌, ◌/◌, ◌%◌, ◌<◌, List, [], ◌∷◌, ◌++◌, length, get_or, drop, ℤ, sym, refl, ap, ◌∙◌, arith, w32, SFits, to_z, of_z}
use Rattle.std.specs.List.{AllByRecursion}
use Rattle.std.proofs.ByRecursion.{All-get_or}
use Rattle.std.proofs.lemmas.List.{drop_all, drop_more}
use Rattle.std.proofs.lemmas.Int.{ints, to_z-of_z, of_z-to_z}
use Rattle.tables.specs.declared.DifferenceEntry.{DifferenceEntry}
use Rattle.tables.specs.declared.EqualityEntry.{EqualityEntry}
use Rattle.tables.specs.Entries.{DifferenceFits}
use Rattle.question_file.specs.Fields.{word}
use Rattle.question_file.specs.Contents.{word_at, words, difference_of, equality_of}
use Rattle.question_file.specs.Writing.{word_bytes, signed_bytes, difference_body, equality_body, clause_body}

abbrev pub Bytes : List ℕ → Type 0
Bytes xs = AllByRecursion (λ b. b < 256) xs

-- n elements of a list from a place on, one by one
abbrev placed : List ℕ → ℕ → ℕ → List ℕ
placed xs i zero = []
placed xs i (suc n) = get_or xs i 0 ∷ placed xs (i + 1) n

places : (xs : List ℕ) (i n : ℕ) → i + n ≡ length xs → drop i xs ≡ placed xs i n
places xs i zero e = drop_all i xs (omega arith)
places xs i (suc n) e =
    drop_more xs i 0 (omega arith) ∙ ap (λ rest. get_or xs i 0 ∷ rest) (places xs (i + 1) n (omega arith))

-- Two bytes, and four.

pub word_read : (n : ℕ) → word (n / 256) (n % 256) ≡ n
word_read n = omega arith

word_bytes_of_word : (high low : ℕ) → low < 256 → word_bytes (word high low) ≡ high ∷ low ∷ []
word_bytes_of_word high low l =
    let h : word high low / 256 ≡ high = omega arith in
    let m : word high low % 256 ≡ low = omega arith in
    λ i. h i ∷ m i ∷ []

abbrev four : ℕ → ℕ → ℕ → ℕ → ℕ
four a b c d = a * 16777216 + b * 65536 + c * 256 + d

signed_read : (z : ℤ) → SFits w32 z
    → to_z w32 (four (of_z w32 z / 16777216) (of_z w32 z / 65536 % 256) (of_z w32 z / 256 % 256) (of_z w32 z % 256)) ≡ z
signed_read z f = ap (to_z w32) (go (of_z w32 z)) ∙ to_z-of_z w32 z f
  where
    go : (n : ℕ) → four (n / 16777216) (n / 65536 % 256) (n / 256 % 256) (n % 256) ≡ n
    go n = omega arith

signed_bytes_four : (a b c d : ℕ) → a < 256 → b < 256 → c < 256 → d < 256
    → signed_bytes (to_z w32 (four a b c d)) ≡ a ∷ b ∷ c ∷ d ∷ []
signed_bytes_four a b c d la lb lc ld =
    ap {B = List ℕ} (λ n. n / 16777216 ∷ n / 65536 % 256 ∷ n / 256 % 256 ∷ n % 256 ∷ [])
    (of_z-to_z w32 (four a b c d) (omega arith))
    ∙ go
  where
    go : ◌≡◌ {A = List ℕ}
        (four a b c d / 16777216 ∷ four a b c d / 65536 % 256 ∷ four a b c d / 256 % 256 ∷ four a b c d % 256 ∷ [])
        (a ∷ b ∷ c ∷ d ∷ [])
    go =
        let p : four a b c d / 16777216 ≡ a = omega arith in
        let q : four a b c d / 65536 % 256 ≡ b = omega arith in
        let r : four a b c d / 256 % 256 ≡ c = omega arith in
        let s : four a b c d % 256 ≡ d = omega arith in
        λ i. p i ∷ q i ∷ r i ∷ s i ∷ []

-- Bodies of fixed length.
module _ (body : List ℕ) (bytes : Bytes body) where
  byte : (i : ℕ) → i < length body → get_or body i 0 < 256
  byte i l = All-get_or (λ b. b < 256) body i 0 l bytes

  pub counts_bytes : length body ≡ 6
      → word_bytes (word_at body 0) ++ word_bytes (word_at body 2) ++ word_bytes (word_at body 4) ≡ body
  counts_bytes e =
      (λ i. word_bytes_of_word (get_or body 0 0) (get_or body 1 0) (byte 1 (omega arith)) i
      ++ word_bytes_of_word (get_or body 2 0) (get_or body 3 0) (byte 3 (omega arith)) i
      ++ word_bytes_of_word (get_or body 4 0) (get_or body 5 0) (byte 5 (omega arith)) i)
      ∙ sym (places body 0 6 (omega arith))

  pub difference_bytes : length body ≡ 8 → difference_body (difference_of body) ≡ body
  difference_bytes e =
      (λ i. word_bytes_of_word (get_or body 0 0) (get_or body 1 0) (byte 1 (omega arith)) i
      ++ word_bytes_of_word (get_or body 2 0) (get_or body 3 0) (byte 3 (omega arith)) i
      ++ signed_bytes_four (get_or body 4 0) (get_or body 5 0) (get_or body 6 0) (get_or body 7 0)
      (byte 4 (omega arith)) (byte 5 (omega arith)) (byte 6 (omega arith)) (byte 7 (omega arith)) i)
      ∙ sym (places body 0 8 (omega arith))

  pub equality_bytes : length body ≡ 4 → equality_body (equality_of body) ≡ body
  equality_bytes e =
      (λ i. word_bytes_of_word (get_or body 0 0) (get_or body 1 0) (byte 1 (omega arith)) i
      ++ word_bytes_of_word (get_or body 2 0) (get_or body 3 0) (byte 3 (omega arith)) i)
      ∙ sym (places body 0 4 (omega arith))

pub difference_read : (variables : ℕ) (e : DifferenceEntry) → DifferenceFits variables e → difference_of (difference_body e) ≡ e
difference_read variables e f =
    let fits : SFits w32 e.limit = grind (arith, ints) in
    λ i. record { a = word_read e.a i; b = word_read e.b i; limit = signed_read e.limit fits i }

pub equality_read : (e : EqualityEntry) → equality_of (equality_body e) ≡ e
equality_read e = λ i. record { a = word_read e.a i; b = word_read e.b i }

-- Clauses.

pub clause_read : (codes : List ℕ) → words (clause_body codes) ≡ codes
clause_read [] = refl
clause_read (code ∷ codes) = λ i. word_read code i ∷ clause_read codes i

pub clause_length : (codes : List ℕ) → length (clause_body codes) ≡ 2 * length codes
clause_length [] = refl
clause_length (code ∷ codes) = omega (arith, clause_length codes)

pub clause_bytes : (body : List ℕ) → Bytes body → length body % 2 ≡ 0 → clause_body (words body) ≡ body
clause_bytes [] b e = refl
clause_bytes (x ∷ []) b e = absurd (omega arith)
clause_bytes (high ∷ low ∷ rest) b e =
    λ i. word_bytes_of_word high low b.1.0 i ++ clause_bytes rest b.1.1 (omega arith) i

pub words_fit : (body : List ℕ) → Bytes body → AllByRecursion (λ code. code < 65536) (words body)
words_fit [] b = tt
words_fit (x ∷ []) b = tt
words_fit (high ∷ low ∷ rest) b = (omega arith, words_fit rest b.1.1)
