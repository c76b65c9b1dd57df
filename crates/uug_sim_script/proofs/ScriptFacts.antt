-- Worked scripts and reports, computed from the definitions.
use Rattle.std.proofs.Common.{◌≡◌, ℕ, false, List, [], ◌∷◌, ◌++◌, codes, Some, None, Ok, Err, refl}
use Rattle.std.specs.Fmt.{digits}
use Rattle.hex.proofs.OnLiterals.{hex_on_literals}
use Rattle.uug_conversation.specs.Jobs.{at_start}
use Rattle.uug_conversation.specs.Holdings.{kept_file}
use Rattle.uug_conversation.specs.MemoryHoldings.{no_holdings}
use Rattle.uug_session.specs.declared.end.End.TheVariants.{Done}
use Rattle.uug_conversation.specs.declared.job.Job.TheVariants.{Send}
use Rattle.uug_line.specs.declared.event.Event.TheVariants.{Flip, Call}
use Rattle.uug_session.specs.declared.phase.Phase.TheVariants.{Ended}
use Rattle.uug_sim_script.specs.declared.report.EndNumbers.{EndNumbers}
use Rattle.uug_conversation.specs.declared.side.Side.TheVariants.{Caller, Called}
use Rattle.uug_line.specs.declared.verdict.LineVerdict.TheVariants.{Clean, Fooled}
use Rattle.uug_talk.specs.Lines.{lines, ended}
use Rattle.uug_sim_script.specs.declared.field.Field.TheVariants as fields
use Rattle.uug_sim_script.specs.Complaints.{missing, too_many, unknown, wrong}
use Rattle.uug_sim_script.specs.Meaning.{digest, resume, event, lenient, limit, number, of_end, quiet, short}
use Rattle.uug_sim_script.specs.ReadLine.{line_of}
use Rattle.uug_sim_script.specs.ReportText.{RunResult, report_text, stored_line, held_text, verdict_line}
use Rattle.uug_sim_script.specs.Script.{ScriptSays, flow_events}
use Rattle.uug_sim_script.specs.ScriptOf.{script_of}

abbrev both_ends : List ℕ
both_ends = ended (codes "caller a 2 32") ++ ended (codes "called b 2 32")

abbrev sent_file : List ℕ
sent_file = both_ends ++ ended (codes "file caller x 0644 -") ++ ended (codes "send caller x y u") ++ ended (codes "flow 2")

-- a file that is sent, over a line that works
abbrev sent_file_says : ScriptSays
sent_file_says = record {
  caller = record {
    name = codes "a";
    announced = record { window = 2; size_code = 0; quiet = false; short = false };
    queue = at_start (Send (codes "x") (codes "y") (codes "u") None ∷ []) [] [];
    held = record no_holdings { files = kept_file (codes "x") 420 [] ∷ [] };
    number = None;
  };
  called = record { name = codes "b"; announced = record { window = 2; size_code = 0; quiet = false; short = false }; queue = at_start [] [] []; held = no_holdings; number = None };
  events = flow_events 2;
}

a_script : script_of sent_file ≡ Ok sent_file_says
a_script = refl

-- an end that is missing makes the line behind the last one bad
no_text : script_of [] ≡ Err 1
no_text = refl

no_called : script_of (codes "caller a 2 32") ≡ Err 2
no_called = refl

bad_window : script_of (ended (codes "caller a 2 32") ++ codes "called b 8 32") ≡ Err 2
bad_window = refl

-- the first bad line counts
one_digit : script_of (both_ends ++ ended (codes "flip caller 1") ++ codes "other") ≡ Err 3
unfolding hex_on_literals
one_digit = refl

two_digits : line_of (codes "flip caller fF") ≡ Ok (event (Flip Caller 255))
unfolding hex_on_literals
two_digits = refl

five_digits : line_of (codes "file caller x 06444 -") ≡ Err (wrong fields.Mode (codes "06444"))
five_digits = refl

a_number : line_of (codes "number called 4294967295") ≡ Ok (of_end Called (number 4294967295))
a_number = refl

too_great_a_number : line_of (codes "number called 4294967296") ≡ Err (wrong fields.Number (codes "4294967296"))
too_great_a_number = refl

-- a number is said once of each end
two_numbers : script_of (both_ends ++ ended (codes "number caller 7") ++ ended (codes "number called 9") ++ codes "number caller 7") ≡ Err 5
two_numbers = refl

a_quiet_end : line_of (codes "quiet called") ≡ Ok (of_end Called quiet)
a_quiet_end = refl

-- that an end is quiet on repeats is said once of each end
twice_quiet : script_of (both_ends ++ ended (codes "quiet caller") ++ ended (codes "quiet called") ++ codes "quiet caller") ≡ Err 5
twice_quiet = refl

a_short_end : line_of (codes "short called") ≡ Ok (of_end Called short)
a_short_end = refl

short_of_no_side : line_of (codes "short") ≡ Err (missing fields.Side)
short_of_no_side = refl

short_and_more : line_of (codes "short caller 1") ≡ Err (too_many (codes "1"))
short_and_more = refl

-- that an end's commands are short is said once of each end
twice_short : script_of (both_ends ++ ended (codes "short caller") ++ ended (codes "short called") ++ codes "short caller") ≡ Err 5
twice_short = refl

a_lenient_end : line_of (codes "lenient called") ≡ Ok (of_end Called lenient)
a_lenient_end = refl

lenient_of_no_side : line_of (codes "lenient") ≡ Err (missing fields.Side)
lenient_of_no_side = refl

a_telling_end : line_of (codes "digest caller") ≡ Ok (of_end Caller digest)
a_telling_end = refl

-- that an end is lenient is said once of each end
twice_lenient : script_of (both_ends ++ ended (codes "lenient caller") ++ ended (codes "lenient called") ++ codes "lenient caller") ≡ Err 5
twice_lenient = refl

-- and that it tells digests
twice_telling : script_of (both_ends ++ ended (codes "digest caller") ++ ended (codes "digest called") ++ codes "digest caller") ≡ Err 5
twice_telling = refl

a_resuming_end : line_of (codes "resume caller") ≡ Ok (of_end Caller resume)
a_resuming_end = refl

-- and that it resumes, which says that it tells digests
twice_resuming : script_of (both_ends ++ ended (codes "resume caller") ++ ended (codes "resume called") ++ codes "resume caller") ≡ Err 5
twice_resuming = refl

a_limited_end : line_of (codes "limit called 268435456") ≡ Ok (of_end Called (limit 268435456))
a_limited_end = refl

too_great_a_limit : line_of (codes "limit called 268435457") ≡ Err (wrong fields.Limit (codes "268435457"))
too_great_a_limit = refl

no_limit : line_of (codes "limit called 0") ≡ Err (wrong fields.Limit (codes "0"))
no_limit = refl

-- a limit is said once of each end, also where it is the one that stands without it
twice_limited : script_of (both_ends ++ ended (codes "limit caller 1048576") ++ ended (codes "limit called 7") ++ codes "limit caller 7") ≡ Err 5
twice_limited = refl

telling_again : script_of (both_ends ++ ended (codes "resume caller") ++ codes "digest caller") ≡ Err 4
telling_again = refl

a_tab : line_of (9 ∷ codes "call") ≡ Err (unknown (9 ∷ codes "call"))
a_tab = refl

-- of several things that are wrong the first is complained of
first_of_two : line_of (codes "caller a 8 33 x") ≡ Err (wrong fields.Window (codes "8"))
first_of_two = refl

spaces : line_of (codes "  call  ") ≡ Ok (event Call)
spaces = refl

last_line : lines (codes "a" ++ 10 ∷ 10 ∷ codes "b") ≡ codes "a" ∷ [] ∷ codes "b" ∷ []
last_line = refl

abbrev numbers : ℕ → ℕ → EndNumbers
numbers sent taken = record { sent = sent; taken = taken; most = 1; phase = Ended Done }

abbrev done : RunResult
done = record {
  sessions = record { caller = numbers 4 3; called = numbers 3 4 } ∷ [];
  caller = record { pending = 0; struck = 1; failed = 0; stored = []; held = []; number = None };
  called = record { pending = 0; struck = 0; failed = 0; stored = kept_file (codes "y") 420 [] ∷ []; held = []; number = None };
  verdict = Clean;
}

abbrev done_text : List ℕ
done_text =
    ended (codes "session 1") ++ ended (codes "caller sent 4 taken 3 most 1 done")
    ++ ended (codes "called sent 3 taken 4 most 1 done") ++ ended (codes "caller pending 0 struck 1 failed 0")
    ++ ended (codes "called pending 0 struck 0 failed 0") ++ ended (codes "called stored y 0644 -") ++ ended (codes "verdict clean")

a_report : report_text done ≡ done_text
unfolding digits
a_report = refl

abbrev done_by_number : RunResult
done_by_number = record done {
  caller = record { pending = 0; struck = 1; failed = 0; stored = []; held = []; number = Some 8 };
}

numbered_report : report_text done_by_number
    ≡ ended (codes "session 1") ++ ended (codes "caller sent 4 taken 3 most 1 done")
    ++ ended (codes "called sent 3 taken 4 most 1 done") ++ ended (codes "caller pending 0 struck 1 failed 0")
    ++ ended (codes "called pending 0 struck 0 failed 0") ++ ended (codes "called stored y 0644 -")
    ++ ended (codes "caller number 8") ++ ended (codes "verdict clean")
unfolding digits
numbered_report = refl

fooled : verdict_line (Fooled 14 Called) ≡ ended (codes "verdict fooled 14 called")
unfolding digits
fooled = refl

a_stored_file : stored_line Called (kept_file (codes "y") 7 (0 ∷ 171 ∷ [])) ≡ ended (codes "called stored y 0007 00ab")
unfolding hex_on_literals
a_stored_file = refl

some_held : held_text Called (record { name = codes "x"; size = 5 } ∷ record { name = codes "D.1"; size = 0 } ∷ [])
    ≡ ended (codes "called holds x 5") ++ ended (codes "called holds D.1 0")
unfolding digits
some_held = refl
