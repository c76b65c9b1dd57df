-- Spells the remark on the text that was heard last in a session that ended badly, because of that text or not (this
-- project's profile).
use Rattle.std.specs.Prelude.{◌||◌, ℕ, Bool, true, false, List, ◌++◌, codes, is_ok, length, min, take}
use Rattle.uug_scan.specs.Detailed.{escaped}
use Rattle.uug_talk.specs.Answer.{answer_of}
use Rattle.uug_talk.specs.Order.{order_of}

-- whether a text is a command or an answer
abbrev pub is_read : List ℕ → Bool
is_read said = is_ok (order_of said) || is_ok (answer_of said)

-- a text that can be read was out of turn
abbrev pub front_words : (read : Bool) → List ℕ
front_words true = codes "uucpair: out of turn: heard \""
front_words false = codes "uucpair: can't read \""

-- The first 60 bytes of the text are shown, the unprintable ones escaped.
abbrev pub quoted_line : (front said : List ℕ) → List ℕ
quoted_line front said = front ++ (escaped (take (min (length said) 60) said) ++ codes "\"\n")

abbrev pub unread_remark : List ℕ → List ℕ
unread_remark said = quoted_line (front_words (is_read said)) said

-- for a session that ended badly because of something else
abbrev pub last_remark : List ℕ → List ℕ
last_remark said = quoted_line (codes "uucpair: heard last \"") said
