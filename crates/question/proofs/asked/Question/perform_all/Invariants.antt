use Rattle.std.proofs.Common.{◌≡◌, ◌≤◌, length, take, vec_items, vec_len, vec_capacity}
use Rattle.question.specs.Asked.{meaning_of, state_of}
use Rattle.question.proofs.Replaying.{SoFar}
use Rattle.question.proofs.asked.Question.perform_all.Given as goal

abbrev pub invariant-loop-call : goal.invariant-loop-call
invariant-loop-call g l =
    record {
      same : meaning_of l.self ≡ meaning_of l.initial.self;
      answered : SoFar (meaning_of l.initial.self) (take l.call-index l.calls) (vec_items l.answers) (state_of l.self);
      count : vec_len l.answers ≡ l.call-index;
      room : length l.calls ≤ vec_capacity l.answers;
    }
