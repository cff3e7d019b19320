-- Reading a file undoes the writing of a question.
mod Accepted
mod Accepts
use Rattle.std.proofs.Common.{◌≡◌, ℕ, ◌+◌, ◌<◌, List, [], length, None, Ok, refl, subst, arith}
use Rattle.std.specs.List.{AllByRecursion}
use Rattle.question_file.specs.declared.check.Room.{Room}
use Rattle.question_file.specs.Contents.{nothing, checked}
use Rattle.question_file.specs.Writing.{UndoesWriting}
use Rattle.question_file.proofs.Law.Accepted.{accepted_from}
use Rattle.question_file.proofs.Law.Accepts.{accepts_written}

pub undoing_writing : (room : Room) (file : List ℕ) → AllByRecursion (λ b. b < 256) file → UndoesWriting room file
undoing_writing room file bytes =
    record {
      accepted = λ q e. accepted_from room q (length file + 1) (record { before = None; contents = nothing }) 0 [] file (omega arith) bytes (refl, refl) e;
      accepts = λ q w e. subst (λ file. checked room file ≡ Ok q) e (accepts_written room q w);
    }
