-- How a tool comes about by the calls that build it.
use Rattle.std.proofs.Common.{arith, ◌≡◌, ◌∙◌, ◌++◌, ◌||◌, ◌&&◌, Bool, true, false, not, List, [], ◌∷◌, ap, ap₂, append_assoc, refl, subst, sym}
use Rattle.std.proofs.lemmas.Bool.Decides.{nat_tests}
use Rattle.std.proofs.lemmas.List.{append-nil}
use Rattle.std.specs.Borrow.{Bor}
use Rattle.clap.specs.Words.{AddsArg, AddsConflicts, AddsSubcommand, App, Rule, Shape, Text, app_of, rule_of, with_subcommand}
use Rattle.clap.specs.Walk.{is_empty, is_free_arg}
use Rattle.clap.specs.declared.builder.arg.Arg.{Arg}
use Rattle.clap.specs.declared.builder.command.Command.{Command}
use Rattle.uug_cli.specs.Tools.{IsArg, IsTool, excluding, with_arguments}

abbrev pub with_argument : Shape → Rule → Shape
with_argument tool rule = record tool { rules = tool.rules ++ rule ∷ [] }

-- one more argument
pub adds : {old new : Command} {added : Arg} {tool : Shape} {rule : Rule} → IsTool tool old → AddsArg old added new → IsArg rule added
    → IsTool (with_argument tool rule) new
adds is step of = record {
  tool_is = ap (λ (made : App). made.top) (step.shape of.local) ∙ ap₂ with_argument is.tool_is of.rule_is;
  local = step.globals ∙ ap₂ (λ a b. a || b) is.local of.local;
}

-- ---- behind those of a tool that is not known

abbrev with_rules : Shape → List Rule → Shape
with_rules tool rules = record tool { rules = rules }

-- it is that tool, with these arguments behind its own
pub record IsWith (before : Shape) (rules : List Rule) (made : Command) : Type 0 where
  pub is : IsTool (with_arguments before rules) made

pub adds_none : {made : Command} {before : Shape} → IsTool before made → IsWith before [] made
adds_none {made} {before} is = record {
  is = subst (λ (tool : Shape). IsTool tool made) (ap (with_rules before) (sym (append-nil before.rules))) is;
}

pub adds_behind : {old new : Command} {added : Arg} {before : Shape} {rules : List Rule} {rule : Rule} → IsWith before rules old
    → AddsArg old added new → IsArg rule added → IsWith before (rules ++ rule ∷ []) new
adds_behind {old} {new} {added} {before} {rules} {rule} had step of = record {
  is = subst (λ (tool : Shape). IsTool tool new) (ap (with_rules before) (append_assoc before.rules rules (rule ∷ [])))
      (adds had.is step of);
}

-- ---- tools, and rules between arguments

-- one more tool
pub adds_tool : {old new sub : Command} {app : App} {tool : Shape} → app_of old ≡ app → AddsSubcommand old sub new → IsTool tool sub
    → app_of new ≡ with_subcommand app tool
adds_tool is step of = step.shape of.local ∙ ap₂ with_subcommand is of.tool_is

not_empty : (xs : List (Bor Text)) (x : Bor Text) → is_empty (xs ++ x ∷ []) ≡ false
not_empty [] x = refl
not_empty (y ∷ ys) x = grind (arith, nat_tests)

never : (a some b : Bool) → some ≡ false → (not a && (some && b)) ≡ false
never true some b none = refl
never false some b none = ap (λ t. t && b) none

-- an argument that excludes another one is not free
pub excludes : {old new : Arg} (other : Bor Text) → {rule : Rule} → IsArg rule old → AddsConflicts old new (other ∷ []) → IsArg (excluding rule) new
excludes {old} {new} other {rule} is step =
    let some : is_empty new.conflicts.items ≡ false = ap is_empty step.1 ∙ not_empty old.conflicts.items other in
    let bound : is_free_arg (record old { conflicts = new.conflicts }) ≡ false = never old.exclusive (is_empty new.conflicts.items) _ some in
    record {
      rule_is = ap rule_of step.0 ∙ ap (λ free. record (rule_of old) { is_free = free }) bound ∙ ap excluding is.rule_is;
      local = ap (λ (a : Arg). a.global) step.0 ∙ is.local;
    }
