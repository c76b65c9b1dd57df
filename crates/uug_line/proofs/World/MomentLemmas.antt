-- What an end has come to when it has emitted more.
use Rattle.std.proofs.Common.{◌≡◌, ℕ, suc, Bool, true, false, List, [], ◌∷◌, ◌++◌, length, map, refl, sym, ap, subst, ◌∙◌, arith}
use Rattle.std.proofs.lemmas.List.{append-nil, append_assoc, length-append, map-append}
use Rattle.uug_link.specs.Outcomes.{NoneIsFirst}
use Rattle.uug_link.specs.State.{State}
use Rattle.uug_link.specs.Step.{Emission}
use Rattle.uug_link.specs.TwoLinks.{packets_of}
use Rattle.uug_packet.specs.Packet.{PacketValue}
use Rattle.uug_conversation.specs.Count.{Count}
use Rattle.uug_session.specs.EndStep.{Emitted, says_text, sends_packet, leave, packets}
use Rattle.uug_conversation.specs.DialogueState.{DialogueState}
use Rattle.uug_conversation.specs.declared.side.Side.{Side}
use Rattle.uug_line.specs.LineEndState.{messages_sent, packets_in, sent_by}
use Rattle.uug_line.proofs.World.Joining.{Moment}

-- ---- what is emitted

pub messages_sent_append : (es more : List Emitted) → messages_sent (es ++ more) ≡ messages_sent es ++ messages_sent more
messages_sent_append [] more = refl
messages_sent_append (says_text text ∷ es) more = messages_sent_append es more
messages_sent_append (sends_packet e ∷ es) more =
    ap (λ (l : List (List ℕ)). sent_by e.first e.packet ++ l) (messages_sent_append es more)
    ∙ sym (append_assoc (sent_by e.first e.packet) (messages_sent es) (messages_sent more))

pub packets_in_append : (es more : List Emitted) → packets_in (es ++ more) ≡ packets_in es ++ packets_in more
packets_in_append [] more = refl
packets_in_append (says_text text ∷ es) more = packets_in_append es more
packets_in_append (sends_packet e ∷ es) more = ap (λ (l : List PacketValue). e.packet ∷ l) (packets_in_append es more)

pub packets_in_packets : (es : List Emission) → packets_in (packets es) ≡ packets_of es
packets_in_packets [] = refl
packets_in_packets (e ∷ es) = ap (λ (l : List PacketValue). e.packet ∷ l) (packets_in_packets es)

not_first : (first : Bool) (p : PacketValue) → first ≡ false → sent_by first p ≡ []
not_first first p is = subst (λ (b : Bool). sent_by b p ≡ []) (sym is) refl

-- no message goes out for the first time
pub none_sent : (es : List Emission) → NoneIsFirst es → messages_sent (packets es) ≡ []
none_sent [] h = refl
none_sent (e ∷ es) h =
    ap (λ (l : List (List ℕ)). l ++ messages_sent (packets es)) (not_first e.first e.packet h.0) ∙ none_sent es h.1

texts_send_nothing : (texts : List (List ℕ)) → messages_sent (map says_text texts) ≡ []
texts_send_nothing [] = refl
texts_send_nothing (text ∷ texts) = texts_send_nothing texts

texts_are_no_packets : (texts : List (List ℕ)) → packets_in (map says_text texts) ≡ []
texts_are_no_packets [] = refl
texts_are_no_packets (text ∷ texts) = texts_are_no_packets texts

pub leave_sends_nothing : (parted : Bool) (side : Side) → messages_sent (leave parted side) ≡ []
leave_sends_nothing true side = refl
leave_sends_nothing false side = refl

leave_is_no_packet : (parted : Bool) (side : Side) → packets_in (leave parted side) ≡ []
leave_is_no_packet true side = refl
leave_is_no_packet false side = refl

-- ---- an end that has emitted this, and whose link and talk are then so

abbrev pub emits : Moment → List Emitted → State → DialogueState → Moment
emits m es link talk = record {
  link = link;
  talk = talk;
  sent = m.sent ++ messages_sent es;
  taken = m.taken;
  packets = m.packets ++ packets_in es;
  arrivals = m.arrivals;
  passed = m.passed;
}

-- as it is described by two numbers
abbrev pub count : Moment → Count
count m = record { opened = m.talk.opened; sent = length m.sent; taken = length m.taken }

-- the same with these messages and packets in all
abbrev with_all : Moment → State → DialogueState → List (List ℕ) → List PacketValue → Moment
with_all m link talk sent packets = record {
  link = link;
  talk = talk;
  sent = sent;
  taken = m.taken;
  packets = packets;
  arrivals = m.arrivals;
  passed = m.passed;
}

emits_as : (m : Moment) (es other : List Emitted) (link : State) (talk : DialogueState) → messages_sent es ≡ messages_sent other →
    packets_in es ≡ packets_in other → emits m es link talk ≡ emits m other link talk
emits_as m es other link talk sent packets =
    ap (λ (l : List (List ℕ)). with_all m link talk (m.sent ++ l) (m.packets ++ packets_in es)) sent
    ∙ ap (λ (l : List PacketValue). with_all m link talk (m.sent ++ messages_sent other) (m.packets ++ l)) packets

pub emits_nothing : (m : Moment) → emits m [] m.link m.talk ≡ m
emits_nothing m =
    ap (λ (l : List (List ℕ)). with_all m m.link m.talk l (m.packets ++ [])) (append-nil m.sent)
    ∙ ap (λ (l : List PacketValue). with_all m m.link m.talk m.sent l) (append-nil m.packets)

-- first this and then that
emits_more : (m : Moment) (es more : List Emitted) (link then_link : State) (talk then_talk : DialogueState) →
    emits (emits m es link talk) more then_link then_talk ≡ emits m (es ++ more) then_link then_talk
emits_more m es more link then_link talk then_talk =
    ap (λ (l : List (List ℕ)). with_all m then_link then_talk l ((m.packets ++ packets_in es) ++ packets_in more))
    (append_assoc m.sent (messages_sent es) (messages_sent more)
    ∙ ap (λ (l : List (List ℕ)). m.sent ++ l) (sym (messages_sent_append es more)))
    ∙ ap (λ (l : List PacketValue). with_all m then_link then_talk (m.sent ++ messages_sent (es ++ more)) l)
    (append_assoc m.packets (packets_in es) (packets_in more)
    ∙ ap (λ (l : List PacketValue). m.packets ++ l) (sym (packets_in_append es more)))

pub emits_more_packets : (m : Moment) (es more : List Emission) (link then_link : State) (talk then_talk : DialogueState) →
    emits (emits m (packets es) link talk) (packets more) then_link then_talk
    ≡ emits m (packets (es ++ more)) then_link then_talk
emits_more_packets m es more link then_link talk then_talk =
    emits_more m (packets es) (packets more) link then_link talk then_talk
    ∙ ap (λ (l : List Emitted). emits m l then_link then_talk) (sym (map-append sends_packet es more))

pub emits_texts : (m : Moment) (texts : List (List ℕ)) (link : State) (talk : DialogueState) →
    emits m (map says_text texts) link talk ≡ emits m [] link talk
emits_texts m texts link talk =
    emits_as m (map says_text texts) [] link talk (texts_send_nothing texts) (texts_are_no_packets texts)

pub emits_texts_first : (m : Moment) (texts : List (List ℕ)) (es : List Emitted) (link : State) (talk : DialogueState) →
    emits m (map says_text texts ++ es) link talk ≡ emits m es link talk
emits_texts_first m texts es link talk =
    emits_as m (map says_text texts ++ es) es link talk
    (messages_sent_append (map says_text texts) es
    ∙ ap (λ (l : List (List ℕ)). l ++ messages_sent es) (texts_send_nothing texts))
    (packets_in_append (map says_text texts) es
    ∙ ap (λ (l : List PacketValue). l ++ packets_in es) (texts_are_no_packets texts))

pub emits_and_leaves : (m : Moment) (es : List Emitted) (parted : Bool) (side : Side) (link : State) (talk : DialogueState) →
    emits m (es ++ leave parted side) link talk ≡ emits m es link talk
emits_and_leaves m es parted side link talk =
    emits_as m (es ++ leave parted side) es link talk
    (messages_sent_append es (leave parted side)
    ∙ ap (λ (l : List (List ℕ)). messages_sent es ++ l) (leave_sends_nothing parted side) ∙ append-nil (messages_sent es))
    (packets_in_append es (leave parted side)
    ∙ ap (λ (l : List PacketValue). packets_in es ++ l) (leave_is_no_packet parted side) ∙ append-nil (packets_in es))

-- ---- told by numbers

pub count_silent : (m : Moment) (es : List Emission) (link : State) → messages_sent (packets es) ≡ [] →
    count (emits m (packets es) link m.talk) ≡ count m
count_silent m es link none =
    ap (λ (l : List (List ℕ)). count (with_all m link m.talk l []))
    (ap (λ (l : List (List ℕ)). m.sent ++ l) none ∙ append-nil m.sent)

pub length_sent : (sent : List (List ℕ)) (es : List Emission) (message : List ℕ) → messages_sent (packets es) ≡ message ∷ [] →
    length (sent ++ messages_sent (packets es)) ≡ suc (length sent)
length_sent sent es message one =
    ap (λ (l : List (List ℕ)). length (sent ++ l)) one ∙ omega (arith, length-append sent (message ∷ []))
