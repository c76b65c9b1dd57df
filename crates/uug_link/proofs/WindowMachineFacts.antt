-- Runs of the window machine that were worked out by hand: a wrong rule in it does not check.
use Rattle.std.proofs.Common.{◌≡◌, ℕ, List, [], ◌∷◌, refl, arith}
use Rattle.uug_link.specs.WindowMachine.{Machine, data_at, acknowledgement, empty, start, sends, repeats, acknowledges, loses, arrives, Move, on_out, on_back, AllAllowed, after}

-- ---- two messages, of which the first is lost: the second is not taken until the first was sent again

abbrev lost : List Move
lost = on_out (sends (1 ∷ [])) ∷ on_out (sends (2 ∷ [])) ∷ on_out loses ∷ on_out arrives ∷ []

abbrev repaired : List Move
repaired = on_out (repeats 0) ∷ on_out (repeats 1) ∷ on_out arrives ∷ on_out arrives
    ∷ on_back acknowledges ∷ on_back arrives ∷ []

pub record IsRepaired : Type 0 where
  pub lost_allowed : AllAllowed (start 2 1) lost
  pub not_taken : after (start 2 1) lost ≡ record {
    out = record { window = 2; sent = (1 ∷ []) ∷ (2 ∷ []) ∷ []; acked = 0; taken = 0; flight = [] };
    back = empty 1;
  }
  pub repaired_allowed : AllAllowed (after (start 2 1) lost) repaired
  pub taken : after (after (start 2 1) lost) repaired ≡ record {
    out = record { window = 2; sent = (1 ∷ []) ∷ (2 ∷ []) ∷ []; acked = 2; taken = 2; flight = [] };
    back = empty 1;
  }

pub repair : IsRepaired
repair = record {
  lost_allowed = (omega arith, (omega arith, (omega arith, (omega arith, tt))));
  not_taken = refl;
  repaired_allowed = ((omega arith, omega arith), ((omega arith, omega arith), (omega arith, (omega arith, (tt, (omega arith, tt))))));
  taken = refl;
}

-- ---- the law's bounds are reached, with a window of seven

abbrev seven : List Move
seven = on_out (sends []) ∷ on_out (sends []) ∷ on_out (sends []) ∷ on_out (sends []) ∷ on_out (sends [])
    ∷ on_out (sends []) ∷ on_out (sends []) ∷ []

abbrev filled : Machine
filled = after (start 7 7) seven

abbrev six_lost : List Move
six_lost = on_out loses ∷ on_out loses ∷ on_out loses ∷ on_out loses ∷ on_out loses ∷ on_out loses ∷ []

-- all arrive, and the first is sent again before the acknowledgement has come
abbrev all_taken : List Move
all_taken = on_out arrives ∷ on_out arrives ∷ on_out arrives ∷ on_out arrives ∷ on_out arrives ∷ on_out arrives
    ∷ on_out arrives ∷ on_out (repeats 0) ∷ on_back acknowledges ∷ []

abbrev seven_sent : List (List ℕ)
seven_sent = [] ∷ [] ∷ [] ∷ [] ∷ [] ∷ [] ∷ [] ∷ []

pub record AreFarthest : Type 0 where
  pub filled_allowed : AllAllowed (start 7 7) seven
  pub ahead_allowed : AllAllowed filled six_lost
  pub ahead : after filled six_lost ≡ record {
    out = record { window = 7; sent = seven_sent; acked = 0; taken = 0; flight = data_at 6 0 ∷ [] };
    back = empty 7;
  }
  pub behind_allowed : AllAllowed filled all_taken
  pub behind : after filled all_taken ≡ record {
    out = record { window = 7; sent = seven_sent; acked = 0; taken = 7; flight = data_at 0 0 ∷ [] };
    back = record { window = 7; sent = []; acked = 0; taken = 0; flight = acknowledgement 7 ∷ [] };
  }

pub farthest : AreFarthest
farthest = record {
  filled_allowed = (omega arith, (omega arith, (omega arith, (omega arith, (omega arith, (omega arith, (omega arith, tt)))))));
  ahead_allowed = (omega arith, (omega arith, (omega arith, (omega arith, (omega arith, (omega arith, tt))))));
  ahead = refl;
  behind_allowed = (
    omega arith,
    (
      omega arith,
      (
        omega arith,
        (
          omega arith,
          (
            omega arith,
            (
              omega arith,
              (
                omega arith,
                ((omega arith, omega arith), (tt, tt)),
              ),
            ),
          ),
        ),
      ),
    ),
  );
  behind = refl;
}
