-- What `field_at` says of bytes that are known by their places, as the reader meets them.
use Rattle.std.proofs.Common.{◌≡◌, ℕ, ◌≤◌, leb, List, [], ◌∷◌, length, get_or, take, drop, refl, arith}
use Rattle.std.proofs.lemmas.Bool.{le-leb}
use Rattle.question_file.specs.Fields.{word, field_at, field}

pub at_whole : (offset : ℕ) (xs : List ℕ) (n : ℕ) → 3 ≤ length xs → n ≡ word (get_or xs 1 0) (get_or xs 2 0)
    → n ≤ length (drop 3 xs)
    → field_at offset xs ≡ field (get_or xs 0 0) (take n (drop 3 xs)) (drop n (drop 3 xs))
at_whole offset [] n s e l = absurd (omega arith)
at_whole offset (a ∷ []) n s e l = absurd (omega arith)
at_whole offset (a ∷ b ∷ []) n s e l = absurd (omega arith)
at_whole offset (a ∷ b ∷ d ∷ xs) n s e l =
    let h : leb (word b d) (length xs) ≡ _ = le-leb (word b d) (length xs) (omega arith) in
    rw (h, e) refl
