-- Public folders, and names in them, that are known, so that a wrong definition does not check.
use Rattle.std.proofs.Common.{◌≡◌, codes, true, false, None, refl}
use Rattle.std.specs.Path.{rsplit_once}
use Rattle.uug_conversation.specs.declared.job.Job.TheVariants.{Request, Send}
use Rattle.uug_taylor_run.specs.PublicNames.{is_given, named_job, public_beside, public_name, without_slash}

record ArePublic : Type 0 where
  debian : public_beside (codes "/var/spool/uucp") ≡ codes "/var/spool/uucppublic"
  top : public_beside (codes "/uucp") ≡ codes "/uucppublic"
  relative : public_beside (codes "spool") ≡ codes "spool/../uucppublic"
  slash_last : public_beside (codes "/var/spool/") ≡ codes "/var/spool//../uucppublic"
  named : without_slash (codes "/srv/pub/") ≡ codes "/srv/pub"
  named_plain : without_slash (codes "/srv/pub") ≡ codes "/srv/pub"

public : ArePublic
unfolding rsplit_once
public = record { debian = refl; top = refl; relative = refl; slash_last = refl; named = refl; named_plain = refl }

record AreNamed : Type 0 where
  inside : public_name (codes "/srv/pub") (codes "/srv/pub/x") ≡ codes "~/x"
  itself : public_name (codes "/srv/pub") (codes "/srv/pub/") ≡ codes "~/"
  beside : public_name (codes "/srv/pub") (codes "/srv/public/x") ≡ codes "/srv/public/x"
  elsewhere : public_name (codes "/srv/pub") (codes "/tmp/x") ≡ codes "/tmp/x"
  asked : named_job (codes "/srv/pub") (Request (codes "~/x") (codes "/srv/pub/x") (codes "me")) ≡ Request (codes "~/x") (codes "~/x") (codes "me")
  sent : named_job (codes "/srv/pub") (Send (codes "/srv/pub/x") (codes "/srv/pub/x") (codes "me") None)
      ≡ Send (codes "/srv/pub/x") (codes "/srv/pub/x") (codes "me") None

named : AreNamed
named = record { inside = refl; itself = refl; beside = refl; elsewhere = refl; asked = refl; sent = refl }

record AreGiven : Type 0 where
  top : is_given (codes "~") (codes "x") ≡ true
  below : is_given (codes "~") (codes "~/out/x") ≡ true
  barred : is_given (codes "~ !~/out") (codes "~/out/x") ≡ false
  alone : is_given (codes "~/out") (codes "~/out/x") ≡ true
  alone_above : is_given (codes "~/out") (codes "x") ≡ false
  hidden : is_given (codes "~") (codes "~/out/.x") ≡ false
  deeper : is_given (codes "~") (codes "~/out/deep/x") ≡ true
  mail : is_given (codes "~") (codes "D.alphaN0001") ≡ false
  elsewhere : is_given (codes "~ /home/ftp") (codes "/home/ftp/in/x") ≡ true
  elsewhere_unlisted : is_given (codes "~") (codes "/home/ftp/x") ≡ false
  elsewhere_hidden : is_given (codes "/home/ftp") (codes "/home/ftp/.x") ≡ false
  elsewhere_upwards : is_given (codes "/home/ftp") (codes "/home/ftp/../x") ≡ false

given : AreGiven
unfolding rsplit_once
given = record { top = refl; below = refl; barred = refl; alone = refl; alone_above = refl; hidden = refl; deeper = refl; mail = refl; elsewhere = refl; elsewhere_unlisted = refl; elsewhere_hidden = refl; elsewhere_upwards = refl }
