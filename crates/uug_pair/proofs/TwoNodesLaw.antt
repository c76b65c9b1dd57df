-- Two nodes are two ends that are told by the events that led them.
use Rattle.std.proofs.Common.{◌≡◌, List, [], ◌∷◌, refl, sym, ap, subst, ◌∙◌}
use Rattle.uug_session.specs.EndStep.{EndEvent, EndState, Identity}
use Rattle.uug_session.specs.Engine.{end_of}
use Rattle.uug_session.specs.Node.{NodeState}
use Rattle.uug_conversation.specs.DialogueState.{DialogueState}
use Rattle.uug_conversation.specs.Holdings.{Holdings, Kept}
use Rattle.uug_conversation.specs.OwnEntries.{HasOwnEntries}
use Rattle.uug_conversation.specs.Sides.{AtBoth, at}
use Rattle.uug_conversation.specs.Turns.{other}
use Rattle.uug_conversation.specs.declared.side.Side.{Side}
use Rattle.uug_line.specs.Headline.{since}
use Rattle.uug_session.specs.Beginnings.{AreSound, EndBeginning, first_effect, identity_of}
use Rattle.uug_pair.specs.Courses.{EndCourse, course_step, course_after, first_course}
use Rattle.uug_session.specs.NodeRuns.{HasRun, state_after}
use Rattle.uug_pair.specs.TwoCourses.{EventAt, KeepsPromises, NoneIsFooled, course_at, events_at}
use Rattle.uug_pair.specs.TwoNodes.{HaveRun, Stands, kept_at, struck_at}
use Rattle.uug_pair.proofs.TwoCoursesLaw.{two_keep}

-- ---- what a node has come to

-- how an end stands is told by its events alone
pub course_state : (h : Holdings) (id : Identity) (events : List EndEvent) (c : EndCourse) →
    (course_after h id events c).state ≡ state_after h id events c.state
course_state h id [] c = refl
course_state h id (event ∷ events) c = course_state h id events (course_step h id event c)

pub run_state : (side : Side) (b : EndBeginning) (kept : List Kept) (n : NodeState) (run : HasRun side b kept n) →
    state_after b.holdings (identity_of side b) run.led.events (first_effect side b).state ≡ end_of b.holdings kept n.engine
run_state side b kept n run =
    ap (state_after b.holdings (identity_of side b) run.led.events) (sym run.begun.state)
    ∙ subst (λ (id : Identity). state_after b.holdings id run.led.events (end_of b.holdings b.kept run.first.engine)
    ≡ end_of b.holdings kept n.engine) run.begun.identity run.led.leads

module _ (ends : AtBoth EndBeginning) (order : List EventAt) (kept : AtBoth (List Kept)) (nodes : AtBoth NodeState) where
  pub nodes_stand : HaveRun ends order kept nodes → (side : Side) → Stands ends order kept nodes side
  nodes_stand have side =
      let b : EndBeginning = at side ends in
      course_state b.holdings (identity_of side b) (events_at side order) (first_course side b)
      ∙ ap (λ (events : List EndEvent). state_after b.holdings (identity_of side b) events (first_effect side b).state) (have.events side)
      ∙ run_state side b (at side kept) (at side nodes) (have.runs side)

  pub nodes_keep : AreSound ends → NoneIsFooled ends order → HaveRun ends order kept nodes → (giver : Side) →
      HasOwnEntries (at giver ends).holdings (at (other giver) ends).holdings (struck_at ends nodes giver)
      (struck_at ends nodes (other giver)) (kept_at ends kept (other giver))
  nodes_keep sound none have giver =
      let keeps : KeepsPromises ends order = two_keep ends order sound none in
      let near : Stands ends order kept nodes giver = nodes_stand have giver in
      let far : Stands ends order kept nodes (other giver) = nodes_stand have (other giver) in
      let h : Holdings = (at giver ends).holdings in
      let others : Holdings = (at (other giver) ends).holdings in
      subst (λ (e : EndState DialogueState). HasOwnEntries h others (since (at giver ends).lists.struck e.keeper.machine.lists.struck)
      (struck_at ends nodes (other giver)) (kept_at ends kept (other giver))) near
      (subst (λ (e : EndState DialogueState). HasOwnEntries h others
      (since (at giver ends).lists.struck (course_at ends order giver).state.keeper.machine.lists.struck)
      (since (at (other giver) ends).lists.struck e.keeper.machine.lists.struck)
      (since (at (other giver) ends).kept e.keeper.kept)) far (keeps.stored giver))
