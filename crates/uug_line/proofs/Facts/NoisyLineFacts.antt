-- Runs over a line that loses, changes and breaks off, worked out by hand, and computed with the two ends themselves and
-- with two numbers an end.
use Rattle.std.proofs.Common.{◌≡◌, ℕ, List, [], ◌∷◌, ◌++◌, take, replicate, codes, None, refl}
use Rattle.uug_link.specs.Terms.{smallest_code}
use Rattle.uug_packet.specs.Checksum.{check}
use Rattle.uug_packet.specs.Decoded.{header_at, decoded}
use Rattle.uug_packet.specs.Packet.{rj, rr, init_c, init_b, init_a, control}
use Rattle.uug_packet.specs.Spelling.{canonical}
use Rattle.uug_session.specs.declared.end.End.TheVariants.{Done, BadTalk, GaveUp, HungUp}
use Rattle.uug_session.specs.declared.greeting.AwaitedText.TheVariants.{Admission}
use Rattle.uug_conversation.specs.MemoryHoldings.{no_holdings}
use Rattle.uug_talk.specs.Texts.{written_text}
use Rattle.uug_line.specs.declared.event.Event.{Event}
use Rattle.uug_line.specs.declared.event.Event.TheVariants.{Pass, Drop, Flip, Timeout, HangUp, Call}
use Rattle.uug_conversation.specs.declared.side.Side.TheVariants.{Caller, Called}
use Rattle.uug_line.specs.declared.verdict.LineVerdict.TheVariants.{Clean, Fooled}
use Rattle.uug_line.specs.Belongings.{Belongings, SetupValue, identity}
use Rattle.uug_line.specs.Delivered.{GreetsOn, came_in}
use Rattle.uug_session.specs.declared.phase.Phase.TheVariants.{Hail, Talking, Ended}
use Rattle.uug_line.specs.RunKeeper.{by_numbers}
use Rattle.uug_line.specs.World.{world, report_of_ends, report_of_world}
use Rattle.uug_line.proofs.Facts.FactSetups.{all, end_with, file, flow, flow_then, gives, idle, inserted_then, puts_y_off, q, request, send, send_copy, sends_to, two_ends, x, y}
use Rattle.uug_line.proofs.Facts.Summaries.{Has, ComeTo, at_ends, logs, talks, owns}

abbrev nothing_left : Has
nothing_left = owns 0 0 0 []

abbrev held_at_caller : SetupValue → List Event → List ℕ
held_at_caller setup events = (world setup events).ends.at_caller.held

-- ---- a byte is changed; after a timeout what was lost comes again

abbrev a_byte_changed : List Event
a_byte_changed = flow_then 5 (Flip Called 1 ∷ flow_then 1 (Timeout Caller ∷ flow 20))

pub damage_is_repaired : ComeTo (sends_to no_holdings) a_byte_changed (record {
  sessions = at_ends (talks 4 3 1 (Ended Done)) (talks 3 4 1 (Ended Done)) ∷ [];
  ends = at_ends (owns 0 1 0 []) (owns 0 0 0 (file y [] ∷ []));
  verdict = Clean;
})
unfolding check header_at decoded smallest_code
damage_is_repaired = record { themselves = refl; numbers = refl; same = refl }

-- ---- the line breaks after the file was stored, and before the caller hears of it: it is stored again

abbrev broken_off : List Event
broken_off = flow_then 6 (Pass Called 1000 ∷ HangUp Called ∷ Call ∷ flow 20)

pub stored_twice : ComeTo (sends_to no_holdings) broken_off (record {
  sessions = at_ends (talks 2 1 1 (Ended HungUp)) (talks 2 2 1 (Ended HungUp))
      ∷ at_ends (talks 4 3 1 (Ended Done)) (talks 3 4 1 (Ended Done)) ∷ [];
  ends = at_ends (owns 0 1 0 []) (owns 0 0 0 (file y [] ∷ file y [] ∷ []));
  verdict = Clean;
})
unfolding check header_at decoded smallest_code
stored_twice = record { themselves = refl; numbers = refl; same = refl }

-- ---- a header is lost, and an image of a packet in its field is found, which was not sent

abbrev image : List ℕ
image = 0x10 ∷ 0x09 ∷ 0x85 ∷ 0xaa ∷ 0x25 ∷ 0x03 ∷ []

abbrev header_lost : List Event
header_lost = flow_then 5
    (Pass Called 1000 ∷ Pass Caller 1000 ∷ Pass Called 6 ∷ Drop Called 6 ∷ Pass Called 1000 ∷ [])

pub image_is_found : ComeTo (two_ends (send ∷ []) (gives (file x image)) [] no_holdings) header_lost (record {
  sessions = at_ends (talks 3 1 2 Talking) (talks 1 1 1 Talking) ∷ [];
  ends = at_ends (owns 1 0 0 []) nothing_left;
  verdict = Fooled 14 Called;
})
unfolding check header_at decoded smallest_code
image_is_found = record { themselves = refl; numbers = refl; same = refl }

-- what would happen then does not
pub nothing_behind_it : ComeTo (two_ends (send ∷ []) (gives (file x image)) [] no_holdings)
    (header_lost ++ flow 20) (record {
      sessions = at_ends (talks 3 1 2 Talking) (talks 1 1 1 Talking) ∷ [];
      ends = at_ends (owns 1 0 0 []) nothing_left;
      verdict = Fooled 14 Called;
    })
unfolding check header_at decoded smallest_code
nothing_behind_it = record { themselves = refl; numbers = refl; same = refl }

-- ---- a packet comes out of nowhere; one is found once more than it was sent

abbrev forged : List Event
forged = flow_then 5 (inserted_then image (Pass Caller 6 ∷ []))

pub forged_packet_is_found : ComeTo (sends_to no_holdings) forged (record {
  sessions = at_ends (talks 1 0 1 Talking) (talks 0 0 0 Talking) ∷ [];
  ends = at_ends (owns 1 0 0 []) nothing_left;
  verdict = Fooled 16 Caller;
})
unfolding check header_at decoded smallest_code
forged_packet_is_found = record { themselves = refl; numbers = refl; same = refl }

-- the called end's INITC 2, which the caller has found
abbrev last_init : List ℕ
last_init = canonical (control (init_c 2))

abbrev found_again : List Event
found_again = flow_then 5 (inserted_then last_init (Pass Caller 6 ∷ []))

pub repeated_packet_is_found : ComeTo (sends_to no_holdings) found_again (record {
  sessions = at_ends (talks 1 0 1 Talking) (talks 0 0 0 Talking) ∷ [];
  ends = at_ends (owns 1 0 0 []) nothing_left;
  verdict = Fooled 16 Caller;
})
unfolding check header_at decoded smallest_code
repeated_packet_is_found = record { themselves = refl; numbers = refl; same = refl }

-- what was found before it, in the same piece, is taken up: the link comes up, and a message is sent
abbrev good_and_forged : List Event
good_and_forged = flow_then 4
    (Pass Called all ∷ Drop Caller all ∷ inserted_then (last_init ++ image) (Pass Caller all ∷ []))

pub good_is_taken_up : ComeTo (sends_to no_holdings) good_and_forged (record {
  sessions = at_ends (talks 1 0 1 Talking) (talks 0 0 0 Talking) ∷ [];
  ends = at_ends (owns 1 0 0 []) nothing_left;
  verdict = Fooled 22 Caller;
})
unfolding check header_at decoded smallest_code
good_is_taken_up = record { themselves = refl; numbers = refl; same = refl }

-- ---- an equal packet that was lost counts as the one that is found: its place is the least

pub least_place : (logs by_numbers (sends_to no_holdings) a_byte_changed).at_called.arrivals
    ≡ 0 ∷ 1 ∷ 2 ∷ 3 ∷ 5 ∷ 6 ∷ 7 ∷ 8 ∷ 9 ∷ 10 ∷ 11 ∷ []
unfolding check header_at decoded smallest_code
least_place = refl

-- ---- a byte of a packet's field is changed: the packet is rejected, and comes again

abbrev field_changed : List Event
field_changed = flow_then 5 (Pass Called 10 ∷ Flip Called 1 ∷ flow 20)

pub broken_packet_is_rejected : ComeTo (sends_to no_holdings) field_changed (record {
  sessions = at_ends (talks 4 3 1 (Ended Done)) (talks 3 4 1 (Ended Done)) ∷ [];
  ends = at_ends (owns 0 1 0 []) (owns 0 0 0 (file y [] ∷ []));
  verdict = Clean;
})
unfolding check header_at decoded smallest_code
broken_packet_is_rejected = record { themselves = refl; numbers = refl; same = refl }

pub reject_goes_out : take 5 (logs by_numbers (sends_to no_holdings) field_changed).at_called.packets
    ≡ control (init_a 2) ∷ control (init_b 0) ∷ control (init_c 2) ∷ control (rj 0) ∷ control (rr 1) ∷ []
unfolding check header_at decoded smallest_code
reject_goes_out = refl

-- ---- noise between packets

abbrev noise : List ℕ
noise = 0x11 ∷ 0x09 ∷ 0xff ∷ 0x00 ∷ []

abbrev with_noise : List Event
with_noise = flow_then 5 (Pass Called all ∷ inserted_then noise (flow 20))

pub noise_is_passed_over : ComeTo (sends_to no_holdings) with_noise (record {
  sessions = at_ends (talks 4 3 1 (Ended Done)) (talks 3 4 1 (Ended Done)) ∷ [];
  ends = at_ends (owns 0 1 0 []) (owns 0 0 0 (file y [] ∷ []));
  verdict = Clean;
})
unfolding check header_at decoded smallest_code
noise_is_passed_over = record { themselves = refl; numbers = refl; same = refl }

-- ---- the greeting: the called end's name is lost; a text is too long

pub name_is_lost : ComeTo idle (Drop Caller 100 ∷ flow 20) (record {
  sessions = at_ends (talks 0 0 0 Hail) (talks 0 0 0 Hail) ∷ [];
  ends = at_ends nothing_left nothing_left;
  verdict = Clean;
})
name_is_lost = record { themselves = refl; numbers = refl; same = refl }

pub long_text_comes : ComeTo idle (inserted_then (0x10 ∷ replicate 257 0x61) (flow 2)) (record {
  sessions = at_ends (talks 0 0 0 (Ended BadTalk)) (talks 0 0 0 Hail) ∷ [];
  ends = at_ends nothing_left nothing_left;
  verdict = Clean;
})
long_text_comes = record { themselves = refl; numbers = refl; same = refl }

-- ---- the line breaks in the greeting: the caller has heard the called end's name alone, and what comes then counts
-- for nothing

abbrev broken_in_greeting : List Event
broken_in_greeting = Pass Caller all ∷ HangUp Caller ∷ flow 3

pub hangs_up_in_greeting : ComeTo (sends_to no_holdings) broken_in_greeting (record {
  sessions = at_ends (talks 0 0 0 (Ended HungUp)) (talks 0 0 0 Hail) ∷ [];
  ends = at_ends (owns 1 0 0 []) nothing_left;
  verdict = Clean;
})
hangs_up_in_greeting = record { themselves = refl; numbers = refl; same = refl }

-- the job is offered in the session behind it
pub goes_on_after_hang_up : ComeTo (sends_to no_holdings) (broken_in_greeting ++ Call ∷ flow 20) (record {
  sessions = at_ends (talks 0 0 0 (Ended HungUp)) (talks 0 0 0 (Ended HungUp))
      ∷ at_ends (talks 4 3 1 (Ended Done)) (talks 3 4 1 (Ended Done)) ∷ [];
  ends = at_ends (owns 0 1 0 []) (owns 0 0 0 (file y [] ∷ []));
  verdict = Clean;
})
unfolding check header_at decoded smallest_code
goes_on_after_hang_up = record { themselves = refl; numbers = refl; same = refl }

-- of the texts that came its greeting has used this one, and would have gone on
abbrev called_name : List ℕ
called_name = codes "Shere=b"

pub used_the_name_alone : ((came_in by_numbers idle broken_in_greeting).at_caller
    ≡ written_text called_name ++ written_text (codes "ROK") ++ written_text (codes "Pg"))
    × GreetsOn (identity idle Caller) None (called_name ∷ []) Admission None
used_the_name_alone =
    (refl, record { greeting = record { awaited = Admission; timeouts = 0 }; goes_on = refl; awaits = refl; keeps = refl })

-- ---- what was put off is offered again in a session to come

pub put_off_twice : ComeTo (sends_to puts_y_off) (flow_then 20 (Call ∷ flow 20)) (record {
  sessions = at_ends (talks 3 2 1 (Ended Done)) (talks 2 3 1 (Ended Done))
      ∷ at_ends (talks 3 2 1 (Ended Done)) (talks 2 3 1 (Ended Done)) ∷ [];
  ends = at_ends (owns 1 0 0 []) nothing_left;
  verdict = Clean;
})
unfolding check header_at decoded smallest_code
put_off_twice = record { themselves = refl; numbers = refl; same = refl }

-- ---- what an end had before the first session stays in front

abbrev had_before : Belongings
had_before = record {
  lists = record { passed = request ∷ []; ahead = send ∷ []; struck = send_copy ∷ []; failed = [] };
  kept = file q [] ∷ [];
  partials = None;
  number = None;
}

abbrev with_earlier : SetupValue
with_earlier = at_ends (record (end_with (codes "a") [] (gives (file x []))) { belongings = had_before })
    (end_with (codes "b") [] (gives (file q [])))

abbrev has_then : Belongings
has_then = record {
  lists = record { passed = []; ahead = []; struck = send_copy ∷ request ∷ send ∷ []; failed = [] };
  kept = file q [] ∷ file y [] ∷ [];
  partials = None;
  number = None;
}

pub record StaysInFront : Type 0 where
  pub themselves : (report_of_ends with_earlier (flow 20)).belongings.at_caller ≡ has_then
  pub numbers : (report_of_world with_earlier (flow 20)).belongings.at_caller ≡ has_then

pub stays_in_front : StaysInFront
unfolding check header_at decoded smallest_code
stays_in_front = record { themselves = refl; numbers = refl }

-- ---- nothing happens; nothing comes

pub nothing_happens : ComeTo idle [] (record {
  sessions = at_ends (talks 0 0 0 Hail) (talks 0 0 0 Hail) ∷ [];
  ends = at_ends nothing_left nothing_left;
  verdict = Clean;
})
nothing_happens = record { themselves = refl; numbers = refl; same = refl }

abbrev eight_timeouts : List Event
eight_timeouts = replicate 8 (Timeout Caller)

pub nothing_comes : ComeTo idle eight_timeouts (record {
  sessions = at_ends (talks 0 0 0 (Ended GaveUp)) (talks 0 0 0 Hail) ∷ [];
  ends = at_ends nothing_left nothing_left;
  verdict = Clean;
})
nothing_comes = record { themselves = refl; numbers = refl; same = refl }

-- ---- the bytes that an end holds: a text or a packet as far as it has come, and nothing when it has ended

pub record HoldWhatWaits : Type 0 where
  pub text : held_at_caller idle (inserted_then (codes "login:" ++ 0x10 ∷ codes "Sh") (Pass Caller 9 ∷ []))
      ≡ 0x10 ∷ codes "Sh"
  pub packet : held_at_caller idle (flow_then 3 (Pass Called all ∷ inserted_then (0x11 ∷ 0x12 ∷ []) (Pass Caller 5 ∷ [])))
      ≡ 0x10 ∷ 0x09 ∷ 0x7a ∷ []
  pub hung_up : held_at_caller idle (Pass Caller 3 ∷ HangUp Caller ∷ []) ≡ []
  pub ended : held_at_caller idle (flow_then 20 (inserted_then (0x10 ∷ []) (Pass Caller all ∷ []))) ≡ []

pub hold_what_waits : HoldWhatWaits
unfolding check header_at decoded smallest_code
hold_what_waits = record { text = refl; packet = refl; hung_up = refl; ended = refl }
