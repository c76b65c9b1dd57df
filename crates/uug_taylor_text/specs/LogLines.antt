-- The lines of a log (as Taylor UUCP 1.07 writes them).
use Rattle.std.specs.Prelude.{◌==◌, ℕ, ◌/◌, List, [], ◌∷◌, ◌++◌, codes, Option, Some, None, if◌then◌else◌}
use Rattle.std.specs.Fmt.{decimal}
use Rattle.uug_talk.specs.Lines.{ended}
use Rattle.uug_taylor_text.specs.Moments.{moment_text}
use Rattle.uug_taylor_text.specs.declared.moment.Moment.{Moment}

-- the head of a line
pub record HeadWords : Type 0 where
  pub program : List ℕ
  pub system : List ℕ
  pub user : List ℕ
  pub moment : Moment
  pub process : ℕ

-- the event of a line
pub data Entry : Type 0 where
  calls : (port : List ℕ) → Entry
  logged_in : Entry
  called : (login port : List ℕ) → Entry
  agreed : (size window far_size far_window : ℕ) → Entry
  sends : (file : List ℕ) → (bytes : ℕ) → Entry
  receives : (file : List ℕ) → (bytes : Option ℕ) → Entry
  sends_from : (file : List ℕ) → (size : Option ℕ) → (position : ℕ) → Entry
  receives_from : (file : List ℕ) → (size : Option ℕ) → (position : ℕ) → Entry
  packets : (sent resent received : ℕ) → Entry
  over : (seconds bytes : ℕ) → Entry
  fault : (text : List ℕ) → Entry

-- a word, or a dash if it is empty
abbrev pub or_dash : List ℕ → List ℕ
or_dash [] = 45 ∷ []
or_dash (b ∷ bs) = b ∷ bs

-- PROGRAM SYSTEM USER (MOMENT PROCESS)
abbrev pub head_text : HeadWords → List ℕ
head_text h =
    h.program ++ codes " " ++ or_dash h.system ++ codes " " ++ or_dash h.user
    ++ codes " (" ++ moment_text h.moment ++ codes " " ++ decimal h.process ++ codes ") "

-- bytes per second, or 0 if no second has passed
abbrev pub rate : (bytes seconds : ℕ) → ℕ
rate bytes seconds = if seconds == 0 then 0 else bytes / seconds

abbrev pub bytes_text : ℕ → List ℕ
bytes_text bytes = codes " (" ++ decimal bytes ++ codes " bytes)"

-- a size, if the other system announced it
abbrev pub size_text : Option ℕ → List ℕ
size_text None = []
size_text (Some bytes) = bytes_text bytes

-- the position at which an interrupted file resumes, after its total size if the other system announced that
abbrev pub position_text : (size : Option ℕ) → (position : ℕ) → List ℕ
position_text None position = codes " (resume at " ++ decimal position ++ codes ")"
position_text (Some size) position = codes " (" ++ decimal size ++ codes " bytes resume at " ++ decimal position ++ codes ")"

-- the text of an event, for this system
abbrev pub entry_text : (system : List ℕ) → Entry → List ℕ
entry_text system (calls port) = codes "Calling system " ++ system ++ codes " (port " ++ port ++ codes ")"
entry_text system logged_in = codes "Login successful"
entry_text system (called login port) = codes "Incoming call (login " ++ login ++ codes " port " ++ port ++ codes ")"
entry_text system (agreed size window far_size far_window) =
    codes "Handshake successful (protocol 'g' sending packet/window " ++ decimal size ++ codes "/" ++ decimal window
    ++ codes " receiving " ++ decimal far_size ++ codes "/" ++ decimal far_window ++ codes ")"
entry_text system (sends file bytes) = codes "Sending " ++ file ++ bytes_text bytes
entry_text system (receives file bytes) = codes "Receiving " ++ file ++ size_text bytes
entry_text system (sends_from file size position) = codes "Sending " ++ file ++ position_text size position
entry_text system (receives_from file size position) = codes "Receiving " ++ file ++ position_text size position
entry_text system (packets sent resent received) =
    codes "Protocol 'g' packets: sent " ++ decimal sent ++ codes ", resent " ++ decimal resent
    ++ codes ", received " ++ decimal received
entry_text system (over seconds bytes) =
    codes "Call complete (" ++ decimal seconds ++ codes " seconds " ++ decimal bytes ++ codes " bytes "
    ++ decimal (rate bytes seconds) ++ codes " bps)"
entry_text system (fault text) = codes "ERROR: " ++ text

abbrev pub log_line : HeadWords → Entry → List ℕ
log_line head entry = ended (head_text head ++ entry_text head.system entry)
