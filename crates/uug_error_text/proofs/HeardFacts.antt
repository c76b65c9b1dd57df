-- What is said of what was heard, so that a wrong definition does not check.
use Rattle.std.proofs.Common.{◌≡◌, [], ◌∷◌, ◌++◌, codes, refl}
use Rattle.std.specs.Fmt.{digits}
use Rattle.uug_conversation.specs.declared.side.Side.TheVariants.{Caller, Called}
use Rattle.uug_session.specs.declared.end.End.TheVariants.{Done, Refused, WrongName, GaveUp, HungUp}
use Rattle.uug_error_text.specs.HeardWords.{heard_remark, nothing, noise, text}

record AreSaid : Type 0 where
  other : heard_remark Caller WrongName (codes "ther") (text (codes "Shere=there")) ≡ codes "uucpair: heard \"Shere=there\", expected \"ther\"" ++ 10 ∷ []
  busy : heard_remark Caller Refused (codes "b") (text (codes "RLCK")) ≡ codes "uucpair: the other end refused: \"RLCK\" (it is busy: call later)" ++ 10 ∷ []
  stranger : heard_remark Called Refused (codes "a") (text (codes "Sc")) ≡ codes "uucpair: heard \"Sc\", expected \"a\"" ++ 10 ∷ []
  unknown : heard_remark Called Refused [] (text (codes "Sc")) ≡ codes "uucpair: heard \"Sc\", but the spool has no folder for that system" ++ 10 ∷ []
  getty : heard_remark Caller GaveUp (codes "b") (noise 7 (codes "login:" ++ 13 ∷ [])) ≡ codes "uucpair: heard 7 bytes and no text: \"login:\\x0d\"" ++ 10 ∷ []
  both_call : heard_remark Caller GaveUp (codes "b") (noise 2 (13 ∷ 10 ∷ [])) ≡ codes "uucpair: heard 2 bytes and no text: \"\\x0d\\x0a\" (only line breaks: both ends call, or a terminal is not raw: stty raw -echo)" ++ 10 ∷ []
  echo : heard_remark Called GaveUp (codes "a") (noise 5 (13 ∷ codes "^PSh")) ≡ codes "uucpair: heard 5 bytes and no text: \"\\x0d^PSh\" (a terminal echoes: stty raw -echo, at the other end too)" ++ 10 ∷ []
  both_answer : heard_remark Called Refused (codes "a") (text (codes "Shere=a")) ≡ codes "uucpair: heard \"Shere=a\", expected \"a\" (both ends answer, and one has to call; or a terminal echoes: stty raw -echo)" ++ 10 ∷ []
  both_refuse : heard_remark Called Refused (codes "a") (text (codes "RLCK")) ≡ codes "uucpair: heard \"RLCK\", expected \"a\" (both ends answer, and one has to call; or a terminal echoes: stty raw -echo)" ++ 10 ∷ []
  mute : heard_remark Caller GaveUp (codes "b") nothing ≡ codes "uucpair: heard nothing (is the other end answering? a terminal has to be raw: stty raw -echo)" ++ 10 ∷ []
  uncalled : heard_remark Called GaveUp (codes "b") nothing ≡ codes "uucpair: heard nothing (is the other end calling? a terminal has to be raw: stty raw -echo)" ++ 10 ∷ []
  deaf : heard_remark Caller GaveUp (codes "b") (text (codes "Shere=b")) ≡ codes "uucpair: heard \"Shere=b\", and then no answer (a terminal has to be raw: stty raw -echo, at the other end too)" ++ 10 ∷ []
  gone : heard_remark Called HungUp (codes "a") nothing ≡ codes "uucpair: the caller hung up, and said nothing (it may expect a name other than --me)" ++ 10 ∷ []
  gone_behind : heard_remark Caller HungUp (codes "b") (text (codes "Shere=b")) ≡ codes "uucpair: heard \"Shere=b\", and then it hung up (it may not know the name of this end)" ++ 10 ∷ []
  login : heard_remark Caller Refused (codes "b") (text (codes "RLOGIN")) ≡ codes "uucpair: the other end refused: \"RLOGIN\" (it does not admit the name of --me, or not with this login)" ++ 10 ∷ []
  done : heard_remark Caller Done (codes "b") (text (codes "Pg")) ≡ []

said : AreSaid
unfolding digits
said = record { other = refl; busy = refl; stranger = refl; unknown = refl; getty = refl; both_call = refl; echo = refl; both_answer = refl; both_refuse = refl; mute = refl; uncalled = refl; deaf = refl; gone = refl; gone_behind = refl; login = refl; done = refl }
