-- Defines the last session in a log of Taylor UUCP's form, and what the log says of its end (this project's profile).
use Rattle.std.specs.Borrow.{Bor}
use Rattle.std.specs.List.{position, starts_with}
use Rattle.std.specs.Prelude.{◌==◌, ◌&&◌, ◌||◌, ◌+◌, ℕ, Bool, List, [], ◌∷◌, codes, drop, nat_eq, take, Option, Some, None, if◌then◌else◌, option_map}
use Rattle.std.specs.Str.{bytes_eq}
use Rattle.uug_talk.specs.Chained.{◌>>=◌}
use Rattle.uug_talk.specs.Lines.{lines}
use Rattle.uug_io_pending.specs.declared.last_session.LastSession.{LastSession}
use Rattle.uug_io_pending.specs.declared.last_session.LogEntry.{LogEntry}

-- the process has a parenthesis after it
pub record Entry : Type 0 where
  pub system : List ℕ
  pub date : List ℕ
  pub time : List ℕ
  pub process : List ℕ
  pub text : List ℕ

abbrev pub shown_entry : LogEntry → Entry
shown_entry e = record { system = e.system.now; date = e.date.now; time = e.time.now; process = e.process.now; text = e.text.now }

abbrev pub is_space : ℕ → Bool
is_space b = b == 32

-- the parts before and after the first space
abbrev pub parts_at : (at : Option ℕ) → (text : List ℕ) → Option (List ℕ × List ℕ)
parts_at None text = None
parts_at (Some at) text = Some (take at text, drop (at + 1) text)

abbrev pub parts_in : (text : List ℕ) → Option (List ℕ × List ℕ)
parts_in text = parts_at (position is_space text) text

abbrev pub shown_parts : Bor (List ℕ) × Bor (List ℕ) → List ℕ × List ℕ
shown_parts p = (p.0.now, p.1.now)

-- the date has a parenthesis before it
abbrev pub date_in : (word : List ℕ) → Option (List ℕ)
date_in word = if starts_with nat_eq word (codes "(") then Some (drop 1 word) else None

-- PROGRAM SYSTEM USER (DATE TIME PROCESS) TEXT
abbrev pub entry_in : (line : List ℕ) → Option Entry
entry_in line =
    parts_in line >>= (λ program. parts_in program.1 >>= (λ system. parts_in system.1 >>= (λ user. parts_in user.1 >>= (λ date.
    date_in date.0 >>= (λ day. parts_in date.1 >>= (λ time. parts_in time.1 >>= (λ process. Some (record {
      system = system.0;
      date = day;
      time = time.0;
      process = process.0;
      text = process.1;
    }))))))))

abbrev pub is_start : Entry → Bool
is_start e = starts_with nat_eq e.text (codes "Calling system ") || starts_with nat_eq e.text (codes "Incoming call ")

abbrev pub kept : (holds : Entry → Bool) → Option Entry → Option Entry
kept holds None = None
kept holds (Some e) = if holds e then Some e else None

abbrev pub start_in : (line : List ℕ) → Option Entry
start_in line = kept is_start (entry_in line)

-- an entry of the same process reports an error, or that the session is over
abbrev pub is_told : (process : List ℕ) → Entry → Bool
is_told process e =
    bytes_eq e.process process && (starts_with nat_eq e.text (codes "ERROR: ") || starts_with nat_eq e.text (codes "Call complete "))

abbrev pub told_in : (process line : List ℕ) → Option Entry
told_in process line = kept (is_told process) (entry_in line)

-- the start of a session, and the lines after it
pub record Last : Type 0 where
  pub start : Entry
  pub behind : List (List ℕ)

abbrev pub shown_last : LastSession → Last
shown_last l = record { start = shown_entry l.start; behind = lines l.behind.now }

-- the session that begins at a line, or else the one before it
abbrev pub last_by : (start : Option Entry) → (behind : List (List ℕ)) → (before : Option Last) → Option Last
last_by None behind before = before
last_by (Some e) behind before = Some (record { start = e; behind = behind })

abbrev pub last_from : (before : Option Last) → List (List ℕ) → Option Last
last_from before [] = before
last_from before (line ∷ more) = last_from (last_by (start_in line) more before) more

abbrev pub last_in : (log : List ℕ) → Option Last
last_in log = last_from None (lines log)
