-- The words for what was heard from the other end, if a session ended badly (this project's profile).
use Rattle.std.specs.Fmt.{decimal}
use Rattle.std.specs.List.{position_or_len, starts_with}
use Rattle.std.specs.Prelude.{◌==◌, ◌&&◌, ◌||◌, ℕ, Bool, not, List, [], ◌∷◌, ◌++◌, codes, drop, length, nat_eq, if◌then◌else◌}
use Rattle.std.specs.Str.{bytes_eq}
use Rattle.uug_conversation.specs.declared.side.Side.{Side}
use Rattle.uug_conversation.specs.declared.side.Side.TheVariants.{Caller, Called}
use Rattle.uug_session.specs.declared.end.End.{End}
use Rattle.uug_session.specs.declared.end.End.TheVariants.{Refused, WrongName, NoProtocol, PeerClosed, GaveUp, HungUp}
use Rattle.uug_talk.specs.Lines.{ended}
use Rattle.uug_error_text.specs.JobsWords.{quoted}
use Rattle.uug_error_text.specs.declared.heard.Heard.{Heard}
use Rattle.uug_error_text.specs.declared.heard.Heard.TheVariants as sounds

-- what was heard, as data: nothing; a number of bytes without a text, and the first of them; or the last text
pub data HeardShown : Type 0 where
  nothing : HeardShown
  noise : (count : ℕ) (bytes : List ℕ) → HeardShown
  text : (said : List ℕ) → HeardShown

abbrev pub shown : Heard → HeardShown
shown sounds.Nothing = nothing
shown (sounds.Noise count bytes) = noise count bytes.now
shown (sounds.Text said) = text said.now

-- which end was expected. If none is named, it is one of the spool's systems
abbrev pub expected_words : (peer : List ℕ) → List ℕ
expected_words peer =
    if length peer == 0 then codes ", but the spool has no folder for that system" else codes ", expected " ++ quoted peer

-- a text was heard from another end than the one that was expected
abbrev pub other_words : (said peer : List ℕ) → List ℕ
other_words said peer = codes "heard " ++ (quoted said ++ expected_words peer)

-- what a known refusal means
abbrev pub hint_words : (said : List ℕ) → List ℕ
hint_words said =
    if bytes_eq said (codes "RLCK") then codes " (it is busy: call later)" else
    (if bytes_eq said (codes "RLOGIN") then codes " (it does not admit the name of --me, or not with this login)" else
    (if bytes_eq said (codes "RYou are unknown to me") then codes " (it does not know the name of this end)" else
    (if bytes_eq said (codes "RCB") then codes " (it will call back)" else [])))

abbrev pub refusal_words : (said hint : List ℕ) → List ℕ
refusal_words said hint = codes "the other end refused: " ++ (quoted said ++ hint)

-- A caller talks like a called end: both ends are called, or this end's own text has come back.
abbrev pub answering_hint : (said : List ℕ) → List ℕ
answering_hint said =
    if starts_with nat_eq said (codes "Shere") || starts_with nat_eq said (codes "R")
    then codes " (both ends answer, and one has to call; or a terminal echoes: stty raw -echo)" else []

-- the other end refused the call, or this end did
abbrev pub refused_words : Side → (said peer : List ℕ) → List ℕ
refused_words Caller said peer = refusal_words said (hint_words said)
refused_words Called said peer = other_words said peer ++ answering_hint said

abbrev pub is_no_line_end : ℕ → Bool
is_no_line_end b = not (b == 13 || b == 10)

-- the number of bytes of line ends at the front
abbrev pub line_ends : List ℕ → ℕ
line_ends bytes = position_or_len is_no_line_end bytes

-- After the line ends there is nothing, or a terminal's echo, which shows the byte before a text, 0x10, as `^P`.
abbrev pub behind_hint : (ends : ℕ) → (rest : List ℕ) → List ℕ
behind_hint ends rest =
    if not (ends == 0) && (length rest == 0)
    then codes " (only line breaks: both ends call, or a terminal is not raw: stty raw -echo)" else
    (if starts_with nat_eq rest (codes "^P")
    then codes " (a terminal echoes: stty raw -echo, at the other end too)" else [])

abbrev pub noise_hint : (bytes : List ℕ) → List ℕ
noise_hint bytes = behind_hint (line_ends bytes) (drop (line_ends bytes) bytes)

abbrev pub noise_words : (count : ℕ) → (bytes : List ℕ) → List ℕ
noise_words count bytes = codes "heard " ++ (decimal count ++ (codes " bytes and no text: " ++ (quoted bytes ++ noise_hint bytes)))

abbrev pub nothing_words : Side → List ℕ
nothing_words Caller = codes "heard nothing (is the other end answering? a terminal has to be raw: stty raw -echo)"
nothing_words Called = codes "heard nothing (is the other end calling? a terminal has to be raw: stty raw -echo)"

-- the other end hung up, and nothing was heard from it
abbrev pub gone_words : Side → List ℕ
gone_words Caller = codes "the other end hung up, and said nothing (no uucico or uucpair answers there, or it turns this machine away)"
gone_words Called = codes "the caller hung up, and said nothing (it may expect a name other than --me)"

-- the other end hung up in the greeting
abbrev pub gone_hint : Side → (said : List ℕ) → List ℕ
gone_hint Caller said =
    if starts_with nat_eq said (codes "Shere")
    then codes ", and then it hung up (it may not know the name of this end)" else codes ", and then it hung up"
gone_hint Called said = codes ", and then the caller hung up (it may lack protocol g)"

-- a text was heard, and then the other end hung up
abbrev pub gone_behind_words : Side → (said : List ℕ) → List ℕ
gone_behind_words side said = codes "heard " ++ (quoted said ++ gone_hint side said)

-- a text was heard, but no answer to this end's next text
abbrev pub unanswered_words : (said : List ℕ) → List ℕ
unanswered_words said = codes "heard " ++ (quoted said ++ codes ", and then no answer (a terminal has to be raw: stty raw -echo, at the other end too)")

-- none of these protocols of the other end is g
abbrev pub protocols_words : (said : List ℕ) → List ℕ
protocols_words said = codes "no protocol g: heard " ++ quoted said

-- the words for a session that ended in this way, if that or what was heard says why
abbrev pub end_words : Side → End → (peer : List ℕ) → HeardShown → List ℕ
end_words side WrongName peer (text said) = other_words said peer
end_words side Refused peer (text said) = refused_words side said peer
end_words side NoProtocol peer (text said) = protocols_words said
end_words side GaveUp peer (noise count bytes) = noise_words count bytes
end_words side HungUp peer (noise count bytes) = noise_words count bytes
end_words side HungUp peer nothing = gone_words side
end_words side HungUp peer (text said) = gone_behind_words side said
end_words side GaveUp peer nothing = nothing_words side
end_words side GaveUp peer (text said) = unanswered_words said
end_words side PeerClosed peer heard = codes "the other end ended the session early (it may not have stored a file: see what it says)"
end_words side end peer heard = []

-- the words as a line, or nothing if there are none
abbrev pub line_with : List ℕ → List ℕ
line_with [] = []
line_with (c ∷ words) = codes "uucpair: " ++ ended (c ∷ words)

abbrev pub heard_remark : Side → End → (peer : List ℕ) → HeardShown → List ℕ
heard_remark side end peer heard = line_with (end_words side end peer heard)
