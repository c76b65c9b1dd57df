-- An end that keeps a file behind the name of a folder, worked out by hand: S and R say the target as the job has it, and what is
-- refused, kept and can't be put in place goes by the name where the file lands, at its keeper alone.
use Rattle.std.proofs.Common.{◌≡◌, ℕ, List, [], ◌∷◌, ◌++◌, codes, Some, None, refl}
use Rattle.uug_talk.specs.declared.answer.Answer.TheVariants as answer
use Rattle.uug_talk.specs.declared.order.Order.TheVariants as order
use Rattle.uug_talk.specs.declared.gather.TheConstants.{FILE_MAX}
use Rattle.uug_conversation.specs.declared.awaits.Awaits.TheVariants as awaits
use Rattle.uug_conversation.specs.Holdings.{Holdings}
use Rattle.uug_conversation.specs.Jobs.{at_start}
use Rattle.uug_conversation.specs.Machine.{replies, keeps, on_text, on_file}
use Rattle.uug_conversation.specs.OwnEntries.{brought, by_giver, by_receiver}
use Rattle.uug_conversation.specs.Party.{Party}
use Rattle.uug_conversation.specs.Turns.{the_order, the_answer, the_consent}
use Rattle.uug_conversation.specs.declared.side.Side.TheVariants.{Caller, Called}
use Rattle.uug_conversation.proofs.ConversationFacts.{said_by, lists_at_end, kept_at_end, nothing_done, sender, taker, asker, giver}
use Rattle.uug_conversation.proofs.FactParties.{Exception, no_exception, denied, put_off, fixed, q, x, y, six_bytes, send, send_copy, request, text}
use Rattle.uug_conversation.proofs.MachineFacts.{has_x_but, ahead}

-- a file lands under the name behind that of the folder
abbrev pub folded : Holdings → Holdings
folded h = record h { landing = λ source target. target ++ source }

abbrev pub lands : Exception → Holdings
lands exception = folded (has_x_but exception)

abbrev pub in_folder : Party → Party
in_folder p = record p { holdings = folded p.holdings }

abbrev pub yx : List ℕ
yx = codes "yx"

abbrev pub yq : List ℕ
yq = codes "yq"

-- ---- one end

pub record AreLanded : Type 0 where
  pub sent : on_text (lands no_exception) awaits.Order (codes "S q y u - D.0 0600") (ahead []) ≡
      replies (ahead []) (awaits.SentFile q yq 384 None FILE_MAX) (the_consent 0 ∷ [])
  pub denied_there : on_text (lands (denied yq)) awaits.Order (codes "S q y u - D.0 0600") (ahead []) ≡
      replies (ahead []) awaits.Order (the_answer answer.SendNever ∷ [])
  pub later_there : on_text (lands (put_off yq)) awaits.Order (codes "S q y u - D.0 0600") (ahead []) ≡
      replies (ahead []) awaits.Order (the_answer answer.SendLater ∷ [])
  pub folder_denied : on_text (lands (denied y)) awaits.Order (codes "S q y u - D.0 0600") (ahead []) ≡
      replies (ahead []) (awaits.SentFile q yq 384 None FILE_MAX) (the_consent 0 ∷ [])
  pub asked : on_file (lands no_exception) (awaits.AskedFile 384 None FILE_MAX) six_bytes (ahead (request ∷ [])) ≡
      keeps (record { name = yq; mode = 384; bytes = six_bytes })
      (replies (at_start [] (request ∷ []) []) awaits.HangUpAnswer (the_answer answer.DoneYes ∷ the_order order.HangUp None ∷ []))
  pub asked_fixed : on_file (lands (fixed yq)) (awaits.AskedFile 384 None FILE_MAX) six_bytes (ahead (request ∷ [])) ≡
      replies (at_start [] [] (request ∷ [])) awaits.HangUpAnswer (the_answer answer.DoneNever ∷ the_order order.HangUp None ∷ [])

pub landed : AreLanded
landed = record { sent = refl; denied_there = refl; later_there = refl; folder_denied = refl; asked = refl; asked_fixed = refl }

-- ---- two ends

pub record LandsAtKeeper : Type 0 where
  pub caller_says : said_by Caller sender (in_folder (taker no_exception)) ≡
      text (codes "S x y u - D.0 0644") ∷ [] ∷ text (codes "H") ∷ text (codes "HY") ∷ []
  pub called_keeps : kept_at_end Called sender (in_folder (taker no_exception)) ≡ record { name = yx; mode = 420; bytes = [] } ∷ []
  pub not_at_giver : kept_at_end Called (in_folder sender) (taker no_exception) ≡ record { name = y; mode = 420; bytes = [] } ∷ []
  pub fixed_called : said_by Called sender (in_folder (taker (fixed yx))) ≡
      text (codes "SY") ∷ text (codes "CN5") ∷ text (codes "HY") ∷ []
  pub denied_called : said_by Called sender (in_folder (taker (denied yx))) ≡ text (codes "SN2") ∷ text (codes "HY") ∷ []
  pub folder_denied : lists_at_end Caller sender (in_folder (taker (denied y))) ≡ record nothing_done { struck = send ∷ [] }
  pub asker_says : said_by Caller (in_folder (asker no_exception)) giver ≡
      text (codes "R q y u -") ∷ text (codes "CY") ∷ text (codes "H") ∷ text (codes "HY") ∷ []
  pub asker_keeps : kept_at_end Caller (in_folder (asker no_exception)) giver ≡ record { name = yq; mode = 420; bytes = [] } ∷ []
  pub asker_fixed : lists_at_end Caller (in_folder (asker (fixed yq))) giver ≡ record nothing_done { failed = request ∷ [] }

pub lands_at_keeper : LandsAtKeeper
lands_at_keeper = record {
  caller_says = refl;
  called_keeps = refl;
  not_at_giver = refl;
  fixed_called = refl;
  denied_called = refl;
  folder_denied = refl;
  asker_says = refl;
  asker_keeps = refl;
  asker_fixed = refl;
}

-- ---- what a struck job brought: a copy is fetched by its own name, and lands by the source's

pub record AreBrought : Type 0 where
  pub copy : brought (lands no_exception) (send_copy ∷ []) [] (by_giver 0) ≡ Some (record { source = x; target = codes "yz" })
  pub asked_for : brought (lands no_exception) [] (request ∷ []) (by_receiver 0) ≡ Some (record { source = q; target = yq })

pub are_brought : AreBrought
are_brought = record { copy = refl; asked_for = refl }
