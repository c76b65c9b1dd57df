use Rattle.std.proofs.Common.{◌≡◌, ℕ, List, [], ◌∷◌, ◌++◌, Some, None, map, ap, ◌∙◌, rules}
use Rattle.std.proofs.lemmas.List.{map-append}
use Rattle.uug_store.specs.OpenJobs.{open_in}
use Rattle.uug_test_transfer.specs.declared.calls.telling_host.Moment.{Moment}
use Rattle.uug_transfer.specs.Moments.{HostNow}
use Rattle.uug_test_transfer.proofs.calls.telling_host.TellingHostHost.write.Goals as goal

abbrev at : (taken jobs : List ℕ) → ℕ → HostNow
at taken jobs faults = record {
  lent = [];
  line = record { received = None; taken = Some taken; writes = None };
  disk = record { jobs = open_in (Some jobs); told = None; job_faults = faults; number = None; number_faults = 0 };
}

abbrev shown : Moment → HostNow
shown moment = at moment.taken.items moment.jobs.items moment.faults

pub returns-clause-writes : goal.returns-clause-writes
returns-clause-writes g c =
    let moment : Moment = record { taken = c.expect.result; jobs = c.expect-2.result; faults = c.faults.result } in
    let pushed : c.push.new.self.items ≡ c.args.self.now.moments.items ++ moment ∷ [] = search rules in
    let taken : c.expect.result.items ≡ c.write-count.new.self.taken.items = search rules in
    let jobs : c.expect-2.result.items ≡ c.args.self.now.jobs.file.text.items = search rules in
    let faults : c.faults.result ≡ c.args.self.now.jobs.file.faults = search rules in
    let before = c.args.self.now.moments.items in
    ap Some (ap (map shown) pushed ∙ map-append shown before (moment ∷ [])
    ∙ ap (λ (x : HostNow). map shown before ++ x ∷ [])
    (ap (λ x. at x c.expect-2.result.items c.faults.result) taken
    ∙ ap (λ x. at c.write-count.new.self.taken.items x c.faults.result) jobs
    ∙ ap (λ x. at c.write-count.new.self.taken.items c.args.self.now.jobs.file.text.items x) faults))
