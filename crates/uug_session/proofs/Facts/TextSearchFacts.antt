-- Searches whose outcome is known, so that a wrong definition does not check.
use Rattle.std.proofs.Common.{◌≡◌, ℕ, ◌+◌, List, [], ◌∷◌, ◌++◌, replicate, codes, true, refl}
use Rattle.uug_talk.specs.declared.hail.TheConstants.{HAIL_MAX}
use Rattle.uug_talk.specs.Texts.{written_text}
use Rattle.uug_session.specs.TextsHeld.{nothing_held, text_waits, text_stands, text_too_long, search_text, search_left, after_text_search}

abbrev hello : List ℕ
hello = written_text (codes "Shere=b")

-- no text is whole
pub record AreWaiting : Type 0 where
  pub nothing : search_text [] ≡ text_waits []
  pub noise : search_text (codes "login:" ++ 0 ∷ 10 ∷ []) ≡ text_waits []
  pub start_byte : search_text (codes "login:" ++ 16 ∷ []) ≡ text_waits (16 ∷ [])
  pub cut : search_text (codes "login:" ++ 16 ∷ codes "Sher") ≡ text_waits (16 ∷ codes "Sher")
  -- a start byte inside a text begins it anew
  pub begun_anew : search_text (16 ∷ codes "Sher" ++ 16 ∷ codes "Sh") ≡ text_waits (16 ∷ codes "Sh")
  pub longest : search_text (16 ∷ replicate HAIL_MAX 120) ≡ text_waits (16 ∷ replicate HAIL_MAX 120)

pub waiting : AreWaiting
waiting = record { nothing = refl; noise = refl; start_byte = refl; cut = refl; begun_anew = refl; longest = refl }

-- a text stands
pub record AreStanding : Type 0 where
  pub alone : search_text hello ≡ text_stands (codes "Shere=b") hello
  pub behind_noise : search_text (codes "login:" ++ 10 ∷ hello) ≡ text_stands (codes "Shere=b") hello
  pub line_feed : search_text (16 ∷ codes "ROK" ++ 10 ∷ []) ≡ text_stands (codes "ROK") (16 ∷ codes "ROK" ++ 10 ∷ [])
  pub empty : search_text (16 ∷ 0 ∷ []) ≡ text_stands [] (16 ∷ 0 ∷ [])
  pub begun_anew : search_text (16 ∷ codes "She" ++ hello) ≡ text_stands (codes "Shere=b") hello
  -- the first of two, and the front of a third
  pub first : search_text (written_text (codes "ROK") ++ hello ++ 16 ∷ codes "P")
      ≡ text_stands (codes "ROK") (written_text (codes "ROK") ++ hello ++ 16 ∷ codes "P")
  -- what comes behind is left as it is, be it a packet
  pub packet : search_text (hello ++ 16 ∷ 9 ∷ 137 ∷ 170 ∷ 33 ∷ 11 ∷ []) ≡ text_stands (codes "Shere=b") (hello ++ 16 ∷ 9 ∷ 137 ∷ 170 ∷ 33 ∷ 11 ∷ [])
  pub longest : search_text (written_text (replicate HAIL_MAX 120)) ≡ text_stands (replicate HAIL_MAX 120) (written_text (replicate HAIL_MAX 120))

pub standing : AreStanding
standing = record { alone = refl; behind_noise = refl; line_feed = refl; empty = refl; begun_anew = refl; first = refl; packet = refl; longest = refl }

-- a text is too long
pub record AreTooLong : Type 0 where
  pub one_byte : search_text (16 ∷ replicate (HAIL_MAX + 1) 120) ≡ text_too_long
  pub ended : search_text (written_text (replicate (HAIL_MAX + 1) 120)) ≡ text_too_long
  -- but not where one stands in front of it, nor where it begins anew
  pub behind_text : search_text (hello ++ 16 ∷ replicate (HAIL_MAX + 1) 120) ≡ text_stands (codes "Shere=b") (hello ++ 16 ∷ replicate (HAIL_MAX + 1) 120)
  pub begun_anew : search_text (16 ∷ replicate 200 120 ++ 16 ∷ replicate 200 120) ≡ text_waits (16 ∷ replicate 200 120)

pub too_long : AreTooLong
too_long = record { one_byte = refl; ended = refl; behind_text = refl; begun_anew = refl }

-- what is held and shown then
pub record AreLeft : Type 0 where
  pub shown : after_text_search (search_text (codes "login:" ++ hello ++ codes "x")) ≡ record { bytes = hello ++ codes "x"; shown_size = 9 }
  pub shown_text : search_left true (record { bytes = hello ++ codes "x"; shown_size = 9 }) ≡ text_stands (codes "Shere=b") (hello ++ codes "x")
  pub waits : after_text_search (search_text (codes "login:" ++ 16 ∷ codes "Sh")) ≡ record { bytes = 16 ∷ codes "Sh"; shown_size = 0 }
  pub nothing : after_text_search (search_text (codes "login:" ++ 16 ∷ replicate (HAIL_MAX + 1) 120)) ≡ nothing_held

pub left : AreLeft
left = record { shown = refl; shown_text = refl; waits = refl; nothing = refl }
