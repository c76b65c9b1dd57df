use Rattle.std.proofs.Common.{◌++◌, ◌∙◌, List, ℕ, ap, codes, string_bytes}
use Rattle.std.proofs.lemmas.Result.{on_ok_weaker}
use Rattle.uug_scan.specs.Detailed.{escaped}
use Rattle.uug_run.proofs.SpoolLockLemmas.{three_added}
use Rattle.uug_run.specs.SpoolLocks.{file_words}
use Rattle.uug_run.proofs.spool_lock.add_locked.Goals as goal

pub returns : goal.returns
returns g c =
    on_ok_weaker c.add_file.result
    (three_added (string_bytes c.args.text.now) (codes "uucpair: system ") (escaped c.args.system.now) (file_words c.args.path.now)
    (string_bytes c.push_str.new.self) (string_bytes c.add_escaped.new.text) (string_bytes c.add_file.new.text) c.in_ok-push_str.ensures.bytes
    (c.in_ok-add_escaped.ensures ∙ ap (λ (bytes : List ℕ). string_bytes c.push_str.new.self ++ escaped bytes) c.as_bytes.ensures.value))
    c.add_file.ensures
