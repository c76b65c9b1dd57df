-- Bytes that come to an end leave it joined to the other, and numbers tell what it does with them.
use Rattle.std.proofs.Common.{◌≡◌, ℕ, zero, suc, List, ◌++◌, length, Option, Some, None, refl, ap, ◌∙◌}
use Rattle.std.specs.Bool.{⊤}
use Rattle.uug_link.specs.Arrivals.{place_of}
use Rattle.uug_packet.specs.Packet.{PacketValue}
use Rattle.uug_reader.specs.Cut.{found, bad}
use Rattle.uug_reader.specs.Search.{Search, waiting, standing, search_of}
use Rattle.uug_session.specs.Arriving.{Receiver, Buffered, holds, Arrival, all_taken, stopped, takes_if, takes_up, takes_up_to, takes_piece}
use Rattle.uug_conversation.specs.Count.{Count}
use Rattle.uug_session.specs.EndStep.{Stage, hailing, linked, ended}
use Rattle.uug_session.specs.Finding.{Finding, finds_nothing, finds, finds_packet, text_finding, item_finding, finding}
use Rattle.uug_conversation.specs.DialogueState.{DialogueState}
use Rattle.uug_session.specs.TextsHeld.{TextSearch, text_waits, text_stands, text_too_long, search_text}
use Rattle.uug_conversation.specs.declared.side.Side.{Side}
use Rattle.uug_line.specs.Belongings.{Belongings, SetupValue}
use Rattle.uug_line.specs.LineEndState.{LineEndState, does}
use Rattle.uug_conversation.specs.Sides.{AtBoth}
use Rattle.uug_line.specs.Taking.{takes_sent, line_taker, packet_taken_up}
use Rattle.uug_line.specs.World.{counted_end, counted_hearer}
use Rattle.uug_line.proofs.World.Joining.{EndsJoined, IsSoundSession}
use Rattle.uug_line.proofs.World.Steps.{talk_player, count_player, IsNoPacket, Steps}
use Rattle.uug_line.proofs.World.JoinedSteps.{steps}

-- ---- packets are found on a link alone, and told apart from the rest

abbrev FindsAt : Stage → Finding → Type 0
FindsAt stage (finds_nothing rest) = ⊤
FindsAt stage (finds event behind) = IsNoPacket event
FindsAt stage (finds_packet p from behind) = stage ≡ linked

text_found_at : (stage : Stage) (bytes : List ℕ) (s : TextSearch) → FindsAt stage (text_finding bytes s)
text_found_at stage bytes (text_waits rest) = tt
text_found_at stage bytes (text_stands text others) = tt
text_found_at stage bytes text_too_long = tt

item_found_at : (s : Search) → FindsAt linked (item_finding s)
item_found_at (waiting rest) = tt
item_found_at (standing (found p) size bytes) = refl
item_found_at (standing bad size bytes) = tt

found_so_at : (stage : Stage) (bytes : List ℕ) → FindsAt stage (finding stage bytes)
found_so_at (hailing g) bytes = text_found_at (hailing g) bytes (search_text bytes)
found_so_at linked bytes = item_found_at (search_of bytes)
found_so_at (ended how) bytes = tt

-- ---- what came, by numbers

abbrev pub counted_came : Arrival (LineEndState DialogueState) → Arrival (LineEndState Count)
counted_came (all_taken h) = all_taken (counted_hearer h)
counted_came (stopped h) = stopped (counted_hearer h)

abbrev pub end_of : Arrival (LineEndState DialogueState) → LineEndState DialogueState
end_of (all_taken h) = h.end
end_of (stopped h) = h.end

module _ (setup : SetupValue) (brought : AtBoth Belongings) (sound : IsSoundSession setup brought) (side : Side) (f : LineEndState DialogueState) where
  all_steps : Steps setup brought
  all_steps = steps setup brought sound

  abbrev talks : Receiver (LineEndState DialogueState)
  talks = line_taker (talk_player setup brought side) f.log.packets

  abbrev counts : Receiver (LineEndState Count)
  counts = line_taker (count_player setup brought side) f.log.packets

  pub record IsTaken (came : Arrival (LineEndState DialogueState)) (numbers : Arrival (LineEndState Count)) : Type 0 where
    pub joined : EndsJoined setup brought side (end_of came) f
    pub counted : counted_came came ≡ numbers

  -- at most so many are taken so
  abbrev AreTaken : ℕ → Type 0
  AreTaken n = (h : Buffered (LineEndState DialogueState)) → EndsJoined setup brought side h.end f →
      IsTaken (takes_up_to n talks h) (takes_up_to n counts (counted_hearer h))

  taken_behind : (n : ℕ) → AreTaken n → (behind : List ℕ) (e : LineEndState DialogueState) (c : LineEndState Count) →
      EndsJoined setup brought side e f → counted_end e ≡ c →
      IsTaken (takes_up_to n talks (holds talks behind e)) (takes_up_to n counts (holds counts behind c))
  taken_behind n more behind e c joined counted =
      let rest = more (holds talks behind e) joined in
      record {
        joined = rest.joined;
        counted = rest.counted ∙ ap (λ z. takes_up_to n counts (holds counts behind z)) counted;
      }

  taken_if : (n : ℕ) → AreTaken n → (p : PacketValue) (place : Option ℕ) (from behind : List ℕ) (e : LineEndState DialogueState) →
      e.state.stage ≡ linked → place_of p f.log.packets e.log.passed ≡ place → EndsJoined setup brought side e f →
      IsTaken (takes_if (takes_up_to n talks) talks (takes_sent (talk_player setup brought side) p place e) from behind e)
      (takes_if (takes_up_to n counts) counts (takes_sent (count_player setup brought side) p place (counted_end e)) from behind
      (counted_end e))
  taken_if n more p None from behind e on_link is joined = record { joined = joined; counted = refl }
  taken_if n more p (Some place) from behind e on_link is joined =
      taken_behind n more behind (packet_taken_up (talk_player setup brought side) p place e)
      (packet_taken_up (count_player setup brought side) p place (counted_end e))
      (all_steps.packet_joined side p place e f on_link is joined) (all_steps.packet_counted side p place e f on_link is joined)

  taken_so : (n : ℕ) → AreTaken n → (what : Finding) (e : LineEndState DialogueState) → FindsAt e.state.stage what →
      EndsJoined setup brought side e f →
      IsTaken (takes_up (takes_up_to n talks) talks what e) (takes_up (takes_up_to n counts) counts what (counted_end e))
  taken_so n more (finds_nothing rest) e found_at joined = record { joined = joined; counted = refl }
  taken_so n more (finds event behind) e no_packet joined =
      taken_behind n more behind (does (talk_player setup brought side) event e)
      (does (count_player setup brought side) event (counted_end e))
      (all_steps.does_joined side event e f no_packet joined) (all_steps.does_counted side event e f no_packet joined)
  taken_so n more (finds_packet p from behind) e on_link joined =
      taken_if n more p (place_of p f.log.packets e.log.passed) from behind e on_link refl joined

  taken_up_to : (n : ℕ) → AreTaken n
  taken_up_to zero h joined = record { joined = joined; counted = refl }
  taken_up_to (suc n) h joined =
      taken_so n (taken_up_to n) (finding h.end.state.stage h.held) h.end (found_so_at h.end.state.stage h.held) joined

  pub taken_piece : (piece : List ℕ) (h : Buffered (LineEndState DialogueState)) → EndsJoined setup brought side h.end f →
      IsTaken (takes_piece talks piece h) (takes_piece counts piece (counted_hearer h))
  taken_piece piece h joined =
      let held = holds talks (h.held ++ piece) h.end in
      taken_up_to (suc (length held.held)) held joined
