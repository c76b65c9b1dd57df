-- All packets of a run are well formed and carry bytes, where the set-up is of bytes; so what comes is bytes.
use Rattle.std.proofs.Common.{◌≡◌, ℕ, List, length, take, All, sym, subst}
use Rattle.std.proofs.lemmas.List.Elements.{All-take}
use Rattle.uug_link.specs.InRange.{IsAnnouncement}
use Rattle.uug_packet.specs.Bytes.{AreBytes}
use Rattle.uug_conversation.specs.Count.{Count}
use Rattle.uug_conversation.specs.DialogueState.{DialogueState}
use Rattle.uug_conversation.specs.Turns.{other}
use Rattle.uug_session.specs.TwoEnds.{talker}
use Rattle.uug_conversation.specs.View.{conversation_view, own_messages}
use Rattle.uug_line.specs.declared.event.Event.{Event}
use Rattle.uug_conversation.specs.declared.side.Side.{Side}
use Rattle.uug_conversation.specs.declared.side.Side.TheVariants.{Caller, Called}
use Rattle.uug_line.specs.Belongings.{Belongings, SetupValue, party}
use Rattle.uug_line.specs.Delivered.{came_in}
use Rattle.uug_line.specs.OfBytes.{AreOfBytes, IsSetupOfBytes}
use Rattle.uug_line.specs.Run.{Run, end_at}
use Rattle.uug_line.specs.RunKeeper.{by_numbers, by_themselves}
use Rattle.uug_conversation.specs.Sides.{AtBoth, at}
use Rattle.uug_line.specs.SoundSetup.{IsSoundSetup}
use Rattle.uug_line.specs.World.{counted, run_of_ends, world}
use Rattle.uug_line.proofs.ByteLemmas.{AllBytes, all_bytes}
use Rattle.uug_line.proofs.CameLemmas.{comes_bytes}
use Rattle.uug_line.proofs.CarriedLemmas.{right_packets, run_right}
use Rattle.uug_line.proofs.EmittedByteLemmas.{IsRight}
use Rattle.uug_line.proofs.World.Joining.{IsSoundSession, Joined, Moment, link_end, moment_of}
use Rattle.uug_line.proofs.LinkLemmas.{links_run}
use Rattle.uug_line.proofs.Standing.{Goes, run_goes}
use Rattle.uug_conversation.proofs.SaidByteLemmas.{own_bytes}
use Rattle.uug_line.proofs.SideLemmas.{each}
use Rattle.uug_line.proofs.World.TalkLemmas.{told_at}

-- the packets of both ends
abbrev pub AllRight : {C : Type 0} → Run C → Type 0
AllRight run = (side : Side) → All IsRight (end_at side run).end.log.packets

module _ (setup : SetupValue) (of_bytes : IsSetupOfBytes setup) where
  names_bytes : (side : Side) → AllBytes (at side setup).name
  names_bytes side = all_bytes (at side setup).name (of_bytes side).name

  announces : IsSoundSetup setup → (side : Side) → IsAnnouncement (at side setup).own
  announces sound side = record { window = (sound.each side).window; size_code = (of_bytes side).size_code }

  module _ (brought : AtBoth Belongings) (sound : IsSoundSession setup brought) where
    said_bytes : (me : Side)
        → All AreBytes (own_messages (conversation_view me (party setup brought Caller) (party setup brought Called)))
    said_bytes me =
        own_bytes me (party setup brought Caller) (party setup brought Called) (sound.party Caller).names (sound.party Called).names
        (of_bytes Caller).files (of_bytes Called).files

    -- the first messages of what an end says
    front_bytes : (me : Side) (own sent : List (List ℕ))
        → own ≡ take (length own) (own_messages (conversation_view me (party setup brought Caller) (party setup brought Called)))
        → own ≡ sent → All AreBytes sent
    front_bytes me own sent first is =
        subst (All AreBytes) is
        (subst (All AreBytes) (sym first)
        (All-take AreBytes (length own)
        (own_messages (conversation_view me (party setup brought Caller) (party setup brought Called))) (said_bytes me)))

    near_right : (side : Side) (near far : Moment) → IsSoundSetup setup → Joined setup brought side near far → All IsRight near.packets
    near_right side near far setup_sound j =
        right_packets (link_end near)
        (run_right (at side setup).own (at (other side) setup).own (sound.window side) (sound.window (other side))
        (record { near = link_end near; far = link_end far }) (announces setup_sound side) (announces setup_sound (other side))
        (links_run setup side near far j.links)).0
        (front_bytes side (talker side j.two).sent near.sent (told_at setup brought sound side j.two j.reached).sent_first j.near_sent)

  module _ (sound : IsSoundSetup setup) (events : List Event) where
    goes : Goes setup (run_of_ends setup events) (world setup events)
    goes = run_goes setup sound events

    all_right : AllRight (run_of_ends setup events)
    all_right side =
        let run : Run DialogueState = run_of_ends setup events in
        near_right run.brought goes.stands.sound side (moment_of (end_at side run).end) (moment_of (end_at (other side) run).end) sound
        (goes.stands.joined side).joined

    counted_right : AllRight (counted (run_of_ends setup events))
    counted_right = each (λ side. All IsRight (end_at side (counted (run_of_ends setup events))).end.log.packets) (all_right Caller) (all_right Called)

    pub ends_bytes : AreOfBytes events → (side : Side) → AreBytes (at side (came_in by_themselves setup events))
    ends_bytes are side = comes_bytes by_themselves setup names_bytes events side are (all_right (other side))

    pub world_bytes : AreOfBytes events → (side : Side) → AreBytes (at side (came_in by_numbers setup events))
    world_bytes are side =
        comes_bytes by_numbers setup names_bytes events side are
        (subst (λ (r : Run Count). All IsRight (end_at (other side) r).end.log.packets) goes.counted_is (counted_right (other side)))
