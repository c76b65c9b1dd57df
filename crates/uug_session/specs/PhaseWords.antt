-- The words in which a person is told how far the session of an end is (this project's profile).
use Rattle.std.specs.Prelude.{ℕ, List, codes}
use Rattle.uug_conversation.specs.declared.side.Side.{Side}
use Rattle.uug_conversation.specs.declared.side.Side.TheVariants.{Caller, Called}
use Rattle.uug_session.specs.declared.end.End.{End}
use Rattle.uug_session.specs.declared.end.End.TheVariants.{Done, Refused, WrongName, NoProtocol, PeerClosed, GaveUp, BadTalk, SpoolFault, HungUp, BadSequence}
use Rattle.uug_session.specs.declared.phase.Phase.{Phase}
use Rattle.uug_session.specs.declared.phase.Phase.TheVariants.{Hail, Starting, Talking, Closing, Ended}

-- the word of an end
abbrev pub side_word : Side → List ℕ
side_word Caller = codes "caller"
side_word Called = codes "called"

-- the word of how a session ended
abbrev pub end_word : End → List ℕ
end_word Done = codes "done"
end_word Refused = codes "refused"
end_word WrongName = codes "wrongname"
end_word NoProtocol = codes "noprotocol"
end_word PeerClosed = codes "peerclosed"
end_word GaveUp = codes "gaveup"
end_word BadTalk = codes "badtalk"
end_word SpoolFault = codes "spoolfault"
end_word HungUp = codes "hungup"
end_word BadSequence = codes "badsequence"

-- the word of where a session stands; one that has ended stands for how it ended
abbrev pub phase_word : Phase → List ℕ
phase_word Hail = codes "hail"
phase_word Starting = codes "starting"
phase_word Talking = codes "talking"
phase_word Closing = codes "closing"
phase_word (Ended end) = end_word end
