-- Defines the hints for words that are often mistaken for those of the program (this project's profile).
use Rattle.std.specs.Prelude.{ℕ, ◌&&◌, Bool, List, [], codes, nat_eq, if◌then◌else◌}
use Rattle.std.specs.List.{starts_with}
use Rattle.std.specs.Str.{bytes_eq}

-- the hint about an option that only the other end has
abbrev pub option_hint : (tool word : List ℕ) → List ℕ
option_hint tool word =
    if bytes_eq tool (codes "call") && starts_with nat_eq word (codes "--wait") then codes "--wait is for answer: a call waits as long as --timeout says" else
    (if bytes_eq tool (codes "call") && starts_with nat_eq word (codes "--sessions") then codes "--sessions is for answer: a call has one session" else
    (if bytes_eq tool (codes "answer") && bytes_eq word (codes "--fail-status") then codes "--fail-status is for call" else []))

abbrev pub hint_words : (tool : List ℕ) → (is_first : Bool) → (word : List ℕ) → List ℕ
hint_words tool is_first word =
    if bytes_eq word (codes "--baud") then codes "set a device speed with stty; --speed is for the timers" else
    (if bytes_eq word (codes "--port") then codes "the port is part of LINE: tcp:HOST:PORT" else
    (if bytes_eq word (codes "send") then codes "to queue a file: uucpair queue DIR send FILE" else
    (if is_first && bytes_eq word (codes "-v") then codes "options go after the command: uucpair call .. -v" else option_hint tool word)))
