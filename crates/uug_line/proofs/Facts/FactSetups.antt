-- The ends and events of the worked runs: a is the caller, b the end that is called.
use Rattle.std.proofs.Common.{false, ℕ, zero, suc, ◌-◌, List, [], ◌∷◌, ◌++◌, length, replicate, codes, Some, None}
use Rattle.uug_conversation.specs.declared.job.Job.{Job}
use Rattle.uug_conversation.specs.declared.job.Job.TheVariants as job
use Rattle.uug_conversation.specs.Holdings.{Kept}
use Rattle.uug_conversation.specs.Jobs.{at_start}
use Rattle.uug_conversation.specs.MemoryHoldings.{MemoryHoldings, no_holdings, holdings_of}
use Rattle.uug_line.specs.declared.event.Event.{Event}
use Rattle.uug_line.specs.declared.event.Event.TheVariants.{Pass, Insert}
use Rattle.uug_conversation.specs.declared.side.Side.TheVariants.{Caller, Called}
use Rattle.uug_line.specs.Belongings.{EndSetupValue, SetupValue}

-- names
abbrev pub q : List ℕ
q = codes "q"

abbrev pub x : List ℕ
x = codes "x"

abbrev pub y : List ℕ
y = codes "y"

abbrev pub u : List ℕ
u = codes "u"

-- a command or an answer in one message
abbrev pub text : List ℕ → List ℕ
text bytes = bytes ++ replicate (32 - length bytes) 0

-- an end with that name, these jobs and this spool, which announces window 2 and the size of this code
abbrev pub end_of_size : (size_code : ℕ) → (name : List ℕ) → List Job → MemoryHoldings → EndSetupValue
end_of_size size_code name jobs spool = record {
  name = name;
  own = record { window = 2; size_code = size_code; quiet = false; short = false };
  holdings = holdings_of spool;
  belongings = record { lists = at_start jobs [] []; kept = []; partials = None; number = None };
}

-- the size is 32
abbrev pub end_with : (name : List ℕ) → List Job → MemoryHoldings → EndSetupValue
end_with name jobs spool = end_of_size 0 name jobs spool

abbrev pub two_ends : List Job → MemoryHoldings → List Job → MemoryHoldings → SetupValue
two_ends jobs spool other_jobs other_spool = record {
  at_caller = end_with (codes "a") jobs spool;
  at_called = end_with (codes "b") other_jobs other_spool;
}

-- a file of mode octal 644
abbrev pub file : (name bytes : List ℕ) → Kept
file name bytes = record { name = name; mode = 420; bytes = bytes }

abbrev pub gives : Kept → MemoryHoldings
gives f = record no_holdings { files = f ∷ [] }

-- spools that never take the file y, take it later, and can't put it in its place
abbrev pub denies_y : MemoryHoldings
denies_y = record no_holdings { denied = y ∷ [] }

abbrev pub puts_y_off : MemoryHoldings
puts_y_off = record no_holdings { postponed = y ∷ [] }

abbrev pub cannot_place_y : MemoryHoldings
cannot_place_y = record no_holdings { immovable = y ∷ [] }

abbrev pub send : Job
send = job.Send x y u None

abbrev pub send_copy : Job
send_copy = job.Send x y u (Some q)

abbrev pub request : Job
request = job.Request q y u

-- the caller sends an empty file to an end with this spool
abbrev pub sends_to : MemoryHoldings → SetupValue
sends_to spool = two_ends (send ∷ []) (gives (file x [])) [] spool

-- no end has anything to do
abbrev pub idle : SetupValue
idle = two_ends [] no_holdings [] no_holdings

-- ---- events

-- more bytes than ever come
abbrev pub all : ℕ
all = 1000000000

-- all bytes go to the called end, and then all to the caller, so many times, and then this happens
abbrev pub flow_then : ℕ → List Event → List Event
flow_then zero events = events
flow_then (suc n) events = Pass Called all ∷ Pass Caller all ∷ flow_then n events

abbrev pub flow : ℕ → List Event
flow n = flow_then n []

-- a byte goes to the called end, and then one to the caller, so many times
abbrev pub trickle : ℕ → List Event
trickle zero = []
trickle (suc n) = Pass Called 1 ∷ Pass Caller 1 ∷ trickle n

-- these bytes are put in front of those that lead to the caller, the last one first, and then this happens
abbrev pub inserted_then : List ℕ → List Event → List Event
inserted_then [] events = events
inserted_then (b ∷ bs) events = inserted_then bs (Insert Caller b ∷ events)
