-- The words about a session that gave up after its greeting, by the bytes that arrived then (this project's profile).
use Rattle.std.specs.Fmt.{decimal}
use Rattle.std.specs.Prelude.{◌==◌, ◌&&◌, ℕ, Bool, not, List, [], ◌++◌, codes, nat_le, if◌then◌else◌}
use Rattle.uug_talk.specs.Lines.{ended}
use Rattle.uug_error_text.specs.declared.passed.Passed.{Passed}

-- the line that `count` bytes arrived, with these words about them
abbrev pub bytes_line : (count : ℕ) → (words : List ℕ) → List ℕ
bytes_line count words = codes "uucpair: " ++ (decimal count ++ (codes " bytes came after the greeting, " ++ ended words))

-- Among 1000 bytes one is probably XON or XOFF.
abbrev pub lacks_flow : Passed → Bool
lacks_flow passed = not passed.has_flow && nat_le 1000 passed.count

abbrev pub flow_remark : Passed → List ℕ
flow_remark passed =
    if lacks_flow passed
    then bytes_line passed.count (codes "none of them XON or XOFF (flow control may drop these: stty raw -ixon -ixoff, at both ends)") else []

-- Each packet of the link has a byte of eight bits in its header.
abbrev pub bits_remark : Passed → List ℕ
bits_remark passed =
    if passed.has_high then flow_remark passed else
    bytes_line passed.count (codes "all seven-bit (the line has to pass eight bits: stty raw pass8, at both ends)")

abbrev pub passed_remark : Passed → List ℕ
passed_remark passed =
    if passed.count == 0
    then codes "uucpair: " ++ ended (codes "nothing came after the greeting (the other end is gone, or the line drops bytes: stty raw pass8, at both ends)")
    else bits_remark passed
