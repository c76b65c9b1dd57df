-- What a link that is up does in several steps, as far as a clean line is concerned: it hears a packet, and sends what it may.
use Rattle.std.proofs.Common.{◌≡◌, ◌⊎◌, inl, inr, ℕ, List, [], ◌∷◌, ◌++◌, refl, ap, sym, ◌∙◌}
use Rattle.std.proofs.lemmas.List.Elements.{All-nil, All-append}
use Rattle.uug_link.specs.OnTheWay.{IsTalk, IsData, expected_behind, oldest_behind, TellOldest, BringAll, TellAll, Answers, Hears, Sends, StillBring}
use Rattle.uug_link.specs.State.{State, IsPlain, IsUp}
use Rattle.uug_link.specs.Step.{Emission, next_number}
use Rattle.uug_link.specs.TwoLinks.{packets_of}
use Rattle.uug_link.proofs.OnTheWayLemmas.{expected_behind-append, oldest_behind-append, still_brings}
use Rattle.uug_packet.specs.Packet.{PacketValue}

-- ---- packets that go out one behind the other

pub packets_of-append : (es more : List Emission) → packets_of (es ++ more) ≡ packets_of es ++ packets_of more
packets_of-append [] more = refl
packets_of-append (e ∷ es) more = ap (λ (l : List PacketValue). e.packet ∷ l) (packets_of-append es more)

-- they tell the number, or there is none and it is as it was
abbrev TellsOrNone : List PacketValue → (before after : ℕ) → Type 0
TellsOrNone packets before after = TellOldest packets after ⊎ ((packets ≡ []) × (after ≡ before))

told_behind : (qs more : List PacketValue) (n m : ℕ) → TellOldest qs n → TellsOrNone more n m → TellOldest (qs ++ more) m
told_behind qs more n m told (inl later) o = oldest_behind-append qs more o ∙ later (oldest_behind qs o)
told_behind qs more n m told (inr none) o =
    oldest_behind-append qs more o ∙ ap (λ (l : List PacketValue). oldest_behind l (oldest_behind qs o)) none.0
    ∙ told o ∙ sym none.1

tells_behind : (qs more : List PacketValue) (k n m : ℕ) → TellsOrNone qs k n → TellsOrNone more n m → TellsOrNone (qs ++ more) k m
tells_behind qs more k n m (inl told) later = inl (told_behind qs more n m told later)
tells_behind qs more k n m (inr none) (inl told) =
    inl (λ o. oldest_behind-append qs more o ∙ told (oldest_behind qs o))
tells_behind qs more k n m (inr none) (inr later) =
    inr (ap (λ (l : List PacketValue). l ++ more) none.0 ∙ later.0, later.1 ∙ none.1)

answers_behind : (a b c : State) (qs more : List PacketValue) → Answers a b qs → Answers b c more → Answers a c (qs ++ more)
answers_behind a b c qs more first later = record {
  talk = All-append IsTalk qs more first.talk later.talk;
  known = expected_behind-append qs more (next_number a) ∙ ap (expected_behind more) first.known ∙ later.known;
  tells = tells_behind qs more a.expected b.expected c.expected first.tells later.tells;
}

-- ---- what is sent behind an answer

-- an end that is up has sent all these packets
pub record Speaks (before after : State) (packets : List PacketValue) : Type 0 where
  pub is_up : IsUp after
  pub expected : after.expected ≡ before.expected
  pub oldest : after.oldest ≡ before.oldest
  pub answers : Answers before after packets

pub speaks_nothing : (s : State) → IsUp s → Speaks s s []
speaks_nothing s is = record {
  is_up = is;
  expected = refl;
  oldest = refl;
  answers = record { talk = All-nil IsTalk; known = refl; tells = inr (refl, refl) };
}

pub speaks_on : (a b c : State) (qs more : List PacketValue) → Sends a b qs → Speaks b c more → Speaks a c (qs ++ more)
speaks_on a b c qs more first later = record {
  is_up = later.is_up;
  expected = later.expected ∙ first.expected;
  oldest = later.oldest ∙ first.oldest;
  answers = answers_behind a b c qs more (record { talk = first.talk; known = first.brings; tells = inl first.tells })
      later.answers;
}

-- it has found a packet, and then sent
pub hears_on : (p : PacketValue) (a b c : State) (qs more : List PacketValue) → Hears p a b qs → Speaks b c more →
    Hears p a c (qs ++ more)
hears_on p a b c qs more first later = record {
  is_up = later.is_up;
  expected = later.expected ∙ first.expected;
  oldest = later.oldest ∙ first.oldest;
  answers = answers_behind a b c qs more first.answers later.answers;
  answered = λ plain is. told_behind qs more b.expected c.expected (first.answered plain is) later.answers.tells;
}

-- ---- what is sure of a way

-- whether a way tells all for sure, or does so unless a data packet stands on the way back, which will be answered
pub data Certainty : Type 0 where
  sure : Certainty
  unsure : Certainty

abbrev pub HasData : List PacketValue → Type 0
HasData [] = ⊥
HasData (p ∷ ps) = IsData p ⊎ HasData ps

data_before : (ps more : List PacketValue) → HasData ps → HasData (ps ++ more)
data_before [] more has = absurd has
data_before (p ∷ ps) more (inl is) = inl is
data_before (p ∷ ps) more (inr has) = inr (data_before ps more has)

-- the packets there tell all that the one link has taken to the other, those back being on the way
abbrev pub IsTold : Certainty → (from to : State) → (there back : List PacketValue) → Type 0
IsTold sure from to there back = TellAll from to there
IsTold unsure from to there back = TellAll from to there ⊎ HasData back

-- What is known of two links while packets go to the one and others come back from it: those back bring all, and both ways
-- tell all as far as is sure.
pub record Knows (there back : Certainty) (far near : State) (ps qs : List PacketValue) : Type 0 where
  pub tells : IsTold there far near ps qs
  pub brings_back : BringAll near far qs
  pub tells_back : IsTold back near far qs ps

tells_on : (t : Certainty) (p : PacketValue) (far a b : State) (ps qs answer : List PacketValue) → StillBring p a b answer →
    IsTold t far a (p ∷ ps) qs → IsTold t far b ps (qs ++ answer)
tells_on sure p far a b ps qs answer still told = still.tells far ps told
tells_on unsure p far a b ps qs answer still (inl told) = inl (still.tells far ps told)
tells_on unsure p far a b ps qs answer still (inr has) = inr (data_before qs answer has)

tells_back_on : (t : Certainty) (p : PacketValue) (far a b : State) (ps qs answer : List PacketValue) → IsPlain a → Hears p a b answer →
    StillBring p a b answer → IsTold t a far qs (p ∷ ps) → IsTold t b far (qs ++ answer) ps
tells_back_on sure p far a b ps qs answer plain h still told = still.tells_back far qs told
tells_back_on unsure p far a b ps qs answer plain h still (inl told) = inl (still.tells_back far qs told)
tells_back_on unsure p far a b ps qs answer plain h still (inr (inl is)) =
    inl (oldest_behind-append qs answer far.oldest ∙ h.answered plain is (oldest_behind qs far.oldest))
tells_back_on unsure p far a b ps qs answer plain h still (inr (inr has)) = inr has

pub knows_on : (there back : Certainty) (far a b : State) (p : PacketValue) (ps qs answer : List PacketValue) →
    IsPlain a → Hears p a b answer → Knows there back far a (p ∷ ps) qs → Knows there back far b ps (qs ++ answer)
knows_on there back far a b p ps qs answer plain h k =
    let still = still_brings p a b answer h in
    record {
      tells = tells_on there p far a b ps qs answer still k.tells;
      brings_back = still.brings_back far qs k.brings_back;
      tells_back = tells_back_on back p far a b ps qs answer plain h still k.tells_back;
    }

-- behind the last of them the way back is sure
pub then_sure : (t : Certainty) (near far : State) (qs : List PacketValue) → IsTold t near far qs [] → TellAll near far qs
then_sure sure near far qs told = told
then_sure unsure near far qs (inl told) = told
then_sure unsure near far qs (inr none) = absurd none
