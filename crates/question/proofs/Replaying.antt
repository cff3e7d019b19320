-- Calls made one after another, as a history.
use Rattle.std.proofs.Common.{◌≡◌, List, [], ◌∷◌, ◌++◌, map, reverse, Some, sym, subst}
use Rattle.std.proofs.lemmas.List.{map_push, reverse-append}
use Rattle.steps.specs.Calls.{Call, Event, State, open_with, History, opening, next}
use Rattle.steps.proofs.Every.{promises}
use Rattle.theory.specs.Meaning.{Meaning, Lawful}
use Rattle.question.specs.Replays.{call_of, event_of, Performed, TellsAll, Answered}
use Rattle.question.specs.declared.asked.replay.Answer.{Answer}
use Rattle.question.specs.declared.asked.replay.Call as data_call

tells_push : (calls : List Call) (answers : List Answer) (events : List Event) (c : Call) (a : Answer) (e : Event) → TellsAll calls answers events → event_of c a ≡ Some e
    → TellsAll (calls ++ (c ∷ [])) (answers ++ (a ∷ [])) (events ++ (e ∷ []))
tells_push [] [] [] c a e t told = (told, tt)
tells_push [] [] (x ∷ events) c a e t told = absurd t
tells_push [] (x ∷ answers) events c a e t told = absurd t
tells_push (x ∷ calls) [] events c a e t told = absurd t
tells_push (x ∷ calls) (y ∷ answers) [] c a e t told = absurd t
tells_push (x ∷ calls) (y ∷ answers) (z ∷ events) c a e t told = (t.0, tells_push calls answers events c a e t.1 told)

module _ (m : Meaning) where
  -- the answers to the first calls, and the state that they lead to
  pub record SoFar (calls : List data_call.Call) (answers : List Answer) (state : State) : Type 0 where
    pub events : List Event
    pub history : History m events state
    pub told : TellsAll (map (call_of m.variables) calls) answers (reverse events)

  pub none_yet : {answers : List Answer} {state : State} → answers ≡ [] → state ≡ open_with [] → SoFar [] answers state
  none_yet empty opened =
      record {
        events = [];
        history = subst (History m []) (sym opened) opening;
        told = subst (λ xs. TellsAll [] xs []) (sym empty) tt;
      }

  pub one_more : {m₁ : Meaning} {calls calls' : List data_call.Call} {answers answers' : List Answer} {s s' : State} (c : data_call.Call) (a : Answer)
      → calls' ≡ calls ++ (c ∷ []) → answers' ≡ answers ++ (a ∷ []) → SoFar calls answers s → m₁ ≡ m → Performed m₁ s (call_of m₁.variables c) a s' → SoFar calls' answers' s'
  one_more {calls = calls} {answers = answers} {answers' = answers'} {s = s} {s' = s'} c a is as_is f same p₁ =
      let p = subst (λ (n : Meaning). Performed n s (call_of n.variables c) a s') same p₁ in
      record {
        events = p.event ∷ f.events;
        history = next f.history p.does;
        told =
            subst (λ cs. TellsAll (map (call_of m.variables) cs) answers' (reverse (p.event ∷ f.events))) (sym is)
            (subst (λ cs. TellsAll cs answers' (reverse (p.event ∷ f.events))) (sym (map_push (call_of m.variables) calls c))
            (subst (λ xs. TellsAll (map (call_of m.variables) calls ++ (call_of m.variables c ∷ [])) xs (reverse (p.event ∷ f.events))) (sym as_is)
            (subst (TellsAll (map (call_of m.variables) calls ++ (call_of m.variables c ∷ [])) (answers ++ (a ∷ []))) (sym (reverse-append (p.event ∷ []) f.events))
            (tells_push (map (call_of m.variables) calls) answers (reverse f.events) (call_of m.variables c) a p.event f.told p.told))));
      }

  pub all_answered : Lawful m → {calls calls' : List data_call.Call} {answers : List Answer} {s : State} → calls ≡ calls' → SoFar calls answers s → Answered m calls' answers
  all_answered lawful {answers = answers} {s = s} is f =
      record {
        events = f.events;
        state = s;
        history = f.history;
        told = subst (λ cs. TellsAll (map (call_of m.variables) cs) answers (reverse f.events)) is f.told;
        right = (promises m lawful).every_list f.events s f.history;
      }
