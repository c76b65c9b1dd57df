-- Conversations that were worked out by hand, computed by the definitions: a wrong rule in them does not check.
use Rattle.std.proofs.Common.{false, ◌≡◌, ℕ, ◌-◌, List, [], ◌∷◌, ◌++◌, length, map, replicate, codes, None, refl}
use Rattle.uug_conversation.specs.Holdings.{Kept}
use Rattle.uug_conversation.specs.Jobs.{Lists}
use Rattle.uug_conversation.specs.Party.{Party}
use Rattle.uug_conversation.specs.declared.side.Side.{Side}
use Rattle.uug_conversation.specs.declared.side.Side.TheVariants.{Caller, Called}
use Rattle.uug_conversation.specs.View.{conversation_view, own_messages, others_messages, floor, kept_after, lists_after}
use Rattle.uug_conversation.proofs.FactParties.{Exception, no_exception, denied, put_off, fixed, end_with, q, x, y, z, empty_file, six_bytes, small_file, long_file, send, send_again, send_copy, send_nothing, request, text}

abbrev pub said_by : Side → (a b : Party) → List (List ℕ)
said_by me a b = own_messages (conversation_view me a b)

abbrev pub lists_at_end : Side → (a b : Party) → Lists
lists_at_end me a b = lists_after me a b (length (others_messages (conversation_view me a b)))

abbrev pub kept_at_end : Side → (a b : Party) → List Kept
kept_at_end me a b = kept_after (length (others_messages (conversation_view me a b))) (conversation_view me a b)

abbrev pub floors : Side → (a b : Party) → List ℕ → List ℕ
floors me a b ks = map (λ k. floor k (conversation_view me a b)) ks

abbrev pub nothing_done : Lists
nothing_done = record { passed = []; ahead = []; struck = []; failed = [] }

-- ---- the caller sends an empty file

abbrev pub sender : Party
sender = end_with (send ∷ []) x empty_file no_exception

abbrev pub taker : Exception → Party
taker exception = end_with [] q None exception

pub record IsSent : Type 0 where
  pub caller_says : said_by Caller sender (taker no_exception) ≡
      text (codes "S x y u - D.0 0644") ∷ [] ∷ text (codes "H") ∷ text (codes "HY") ∷ []
  pub called_says : said_by Called sender (taker no_exception) ≡
      text (codes "SY") ∷ text (codes "CY") ∷ text (codes "HY") ∷ []
  pub caller_floors : floors Caller sender (taker no_exception) (0 ∷ 1 ∷ 2 ∷ 3 ∷ 4 ∷ []) ≡ 1 ∷ 2 ∷ 3 ∷ 4 ∷ 4 ∷ []
  pub called_floors : floors Called sender (taker no_exception) (0 ∷ 1 ∷ 2 ∷ 3 ∷ 4 ∷ []) ≡ 0 ∷ 1 ∷ 2 ∷ 3 ∷ 3 ∷ []
  pub caller_lists : lists_at_end Caller sender (taker no_exception) ≡ record nothing_done { struck = send ∷ [] }
  pub not_before : lists_after Caller sender (taker no_exception) 1 ≡ record nothing_done { ahead = send ∷ [] }
  pub called_lists : lists_at_end Called sender (taker no_exception) ≡ nothing_done
  pub caller_keeps : kept_at_end Caller sender (taker no_exception) ≡ []
  pub called_keeps : kept_at_end Called sender (taker no_exception) ≡ record { name = y; mode = 420; bytes = [] } ∷ []
  pub with_the_file : kept_after 2 (conversation_view Called sender (taker no_exception)) ≡
      record { name = y; mode = 420; bytes = [] } ∷ []
  pub only_with_it : kept_after 1 (conversation_view Called sender (taker no_exception)) ≡ []

pub is_sent : IsSent
is_sent = record {
  caller_says = refl;
  called_says = refl;
  caller_floors = refl;
  called_floors = refl;
  caller_lists = refl;
  not_before = refl;
  called_lists = refl;
  caller_keeps = refl;
  called_keeps = refl;
  with_the_file = refl;
  only_with_it = refl;
}

-- ---- the called end sends it: the roles are exchanged by HN

pub record IsSentBack : Type 0 where
  pub caller_says : said_by Caller (taker no_exception) sender ≡
      text (codes "H") ∷ text (codes "SY") ∷ text (codes "CY") ∷ text (codes "HY") ∷ []
  pub called_says : said_by Called (taker no_exception) sender ≡
      text (codes "HN") ∷ text (codes "S x y u - D.0 0644") ∷ [] ∷ text (codes "H") ∷ text (codes "HY") ∷ []
  pub called_floors : floors Called (taker no_exception) sender (0 ∷ 1 ∷ 2 ∷ 3 ∷ 4 ∷ []) ≡ 0 ∷ 2 ∷ 3 ∷ 4 ∷ 5 ∷ []
  pub caller_lists : lists_at_end Caller (taker no_exception) sender ≡ nothing_done
  pub called_lists : lists_at_end Called (taker no_exception) sender ≡ record nothing_done { struck = send ∷ [] }
  pub caller_keeps : kept_at_end Caller (taker no_exception) sender ≡ record { name = y; mode = 420; bytes = [] } ∷ []
  pub called_keeps : kept_at_end Called (taker no_exception) sender ≡ []

pub is_sent_back : IsSentBack
is_sent_back = record {
  caller_says = refl;
  called_says = refl;
  called_floors = refl;
  caller_lists = refl;
  called_lists = refl;
  caller_keeps = refl;
  called_keeps = refl;
}

-- ---- the called end refuses the file: for ever, or for this session, or because it can't be put in its place

pub record IsRefused : Type 0 where
  pub denied_caller : said_by Caller sender (taker (denied y)) ≡
      text (codes "S x y u - D.0 0644") ∷ text (codes "H") ∷ text (codes "HY") ∷ []
  pub denied_called : said_by Called sender (taker (denied y)) ≡ text (codes "SN2") ∷ text (codes "HY") ∷ []
  pub denied_lists : lists_at_end Caller sender (taker (denied y)) ≡ record nothing_done { failed = send ∷ [] }
  pub denied_keeps : kept_at_end Called sender (taker (denied y)) ≡ []
  pub denied_called_lists : lists_at_end Called sender (taker (denied y)) ≡ nothing_done
  pub source_denied : lists_at_end Caller sender (taker (denied x)) ≡ record nothing_done { struck = send ∷ [] }
  pub later_caller : said_by Caller sender (taker (put_off y)) ≡
      text (codes "S x y u - D.0 0644") ∷ text (codes "H") ∷ text (codes "HY") ∷ []
  pub later_called : said_by Called sender (taker (put_off y)) ≡ text (codes "SN4") ∷ text (codes "HY") ∷ []
  pub later_lists : lists_at_end Caller sender (taker (put_off y)) ≡ record nothing_done { passed = send ∷ [] }
  pub later_called_lists : lists_at_end Called sender (taker (put_off y)) ≡ nothing_done
  pub later_keeps : kept_at_end Called sender (taker (put_off y)) ≡ []
  pub immovable_caller : said_by Caller sender (taker (fixed y)) ≡
      text (codes "S x y u - D.0 0644") ∷ [] ∷ text (codes "H") ∷ text (codes "HY") ∷ []
  pub immovable_called : said_by Called sender (taker (fixed y)) ≡
      text (codes "SY") ∷ text (codes "CN5") ∷ text (codes "HY") ∷ []
  pub immovable_lists : lists_at_end Caller sender (taker (fixed y)) ≡ record nothing_done { failed = send ∷ [] }
  pub immovable_keeps : kept_at_end Called sender (taker (fixed y)) ≡ []
  pub immovable_called_lists : lists_at_end Called sender (taker (fixed y)) ≡ nothing_done

pub is_refused : IsRefused
is_refused = record {
  denied_caller = refl;
  denied_called = refl;
  denied_lists = refl;
  denied_keeps = refl;
  denied_called_lists = refl;
  source_denied = refl;
  later_caller = refl;
  later_called = refl;
  later_lists = refl;
  later_called_lists = refl;
  later_keeps = refl;
  immovable_caller = refl;
  immovable_called = refl;
  immovable_lists = refl;
  immovable_keeps = refl;
  immovable_called_lists = refl;
}

-- ---- the caller asks for a file: one that the called end hasn't got, one that it has, and one that can't be put in its
-- place at the caller

abbrev pub asker : Exception → Party
asker exception = end_with (request ∷ []) x empty_file exception

abbrev pub giver : Party
giver = end_with [] q empty_file no_exception

pub record IsAsked : Type 0 where
  pub nothing_caller : said_by Caller (asker no_exception) (taker no_exception) ≡
      text (codes "R q y u -") ∷ text (codes "H") ∷ text (codes "HY") ∷ []
  pub nothing_called : said_by Called (asker no_exception) (taker no_exception) ≡
      text (codes "RN2") ∷ text (codes "HY") ∷ []
  pub nothing_lists : lists_at_end Caller (asker no_exception) (taker no_exception) ≡
      record nothing_done { failed = request ∷ [] }
  pub nothing_called_lists : lists_at_end Called (asker no_exception) (taker no_exception) ≡ nothing_done
  pub nothing_keeps : kept_at_end Caller (asker no_exception) (taker no_exception) ≡ []
  pub given_caller : said_by Caller (asker no_exception) giver ≡
      text (codes "R q y u -") ∷ text (codes "CY") ∷ text (codes "H") ∷ text (codes "HY") ∷ []
  pub given_called : said_by Called (asker no_exception) giver ≡
      text (codes "RY 0644") ∷ [] ∷ text (codes "HY") ∷ []
  pub given_floors : floors Caller (asker no_exception) giver (0 ∷ 1 ∷ 2 ∷ 3 ∷ []) ≡ 1 ∷ 1 ∷ 3 ∷ 4 ∷ []
  pub given_lists : lists_at_end Caller (asker no_exception) giver ≡ record nothing_done { struck = request ∷ [] }
  pub giver_lists : lists_at_end Called (asker no_exception) giver ≡ nothing_done
  pub given_keeps : kept_at_end Caller (asker no_exception) giver ≡ record { name = y; mode = 420; bytes = [] } ∷ []
  pub giver_keeps : kept_at_end Called (asker no_exception) giver ≡ []
  pub fixed_caller : said_by Caller (asker (fixed y)) giver ≡
      text (codes "R q y u -") ∷ text (codes "CN5") ∷ text (codes "H") ∷ text (codes "HY") ∷ []
  pub fixed_lists : lists_at_end Caller (asker (fixed y)) giver ≡ record nothing_done { failed = request ∷ [] }
  pub fixed_keeps : kept_at_end Caller (asker (fixed y)) giver ≡ []

pub is_asked : IsAsked
is_asked = record {
  nothing_caller = refl;
  nothing_called = refl;
  nothing_lists = refl;
  nothing_called_lists = refl;
  nothing_keeps = refl;
  given_caller = refl;
  given_called = refl;
  given_floors = refl;
  given_lists = refl;
  giver_lists = refl;
  given_keeps = refl;
  giver_keeps = refl;
  fixed_caller = refl;
  fixed_lists = refl;
  fixed_keeps = refl;
}

-- ---- jobs of both ends: one that can't be offered stands in front of the caller's and behind the called end's; a file
-- that is fetched by the name of its copy goes out in messages of the size that its hearer announced

abbrev pub busy_caller : Party
busy_caller = end_with (send_nothing ∷ send_copy ∷ request ∷ []) x long_file no_exception

abbrev pub busy_called : Party
busy_called = end_with (send_again ∷ send_nothing ∷ []) x small_file no_exception

abbrev pub wide : Party → Party
wide p = record p { measure = record { size = 64; short = false } }

abbrev pub wide_text : List ℕ → List ℕ
wide_text bytes = bytes ++ replicate (64 - length bytes) 0

pub record IsBusy : Type 0 where
  pub caller_says : said_by Caller (wide busy_caller) busy_called ≡
      wide_text (codes "S z y u -C x 0600") ∷ replicate 64 7 ∷ replicate 6 7 ∷ [] ∷ wide_text (codes "R q y u -") ∷
      wide_text (codes "H") ∷ wide_text (codes "SY") ∷ wide_text (codes "CY") ∷ wide_text (codes "HY") ∷ []
  pub called_says : said_by Called (wide busy_caller) busy_called ≡
      text (codes "SY") ∷ text (codes "CY") ∷ text (codes "RN2") ∷ text (codes "HN") ∷ text (codes "S x z u - D.0 0644") ∷
      six_bytes ∷ [] ∷ text (codes "H") ∷ text (codes "HY") ∷ []
  pub first_choice : lists_after Caller (wide busy_caller) busy_called 0 ≡
      record nothing_done { ahead = send_copy ∷ request ∷ []; failed = send_nothing ∷ [] }
  pub caller_lists : lists_at_end Caller (wide busy_caller) busy_called ≡
      record nothing_done { struck = send_copy ∷ []; failed = send_nothing ∷ request ∷ [] }
  pub no_choice_yet : lists_after Called (wide busy_caller) busy_called 4 ≡
      record nothing_done { ahead = send_again ∷ send_nothing ∷ [] }
  pub called_lists : lists_at_end Called (wide busy_caller) busy_called ≡
      record nothing_done { struck = send_again ∷ []; failed = send_nothing ∷ [] }
  pub caller_keeps : kept_at_end Caller (wide busy_caller) busy_called ≡
      record { name = z; mode = 420; bytes = six_bytes } ∷ []
  pub called_keeps : kept_at_end Called (wide busy_caller) busy_called ≡
      record { name = y; mode = 384; bytes = replicate 70 7 } ∷ []

pub is_busy : IsBusy
is_busy = record {
  caller_says = refl;
  called_says = refl;
  first_choice = refl;
  caller_lists = refl;
  no_choice_yet = refl;
  called_lists = refl;
  caller_keeps = refl;
  called_keeps = refl;
}
