-- How long some ends wait, worked out.
use Rattle.std.proofs.Common.{◌≡◌, Some, None, refl}
use Rattle.uug_transfer.specs.Timers.{packets_of, timer}

-- a window of 7 packets of 256 bytes
a_window : packets_of 7 256 ≡ 1834
a_window = refl

-- at 1,200 bit/s it takes 15.3 seconds
one_window_at_1200 : timer 15 (Some 1200) 1834 ≡ 31
one_window_at_1200 = refl

-- and one of each end 30.6
two_windows_at_1200 : timer 15 (Some 1200) 3668 ≡ 46
two_windows_at_1200 = refl

-- two of 7 packets of 64 bytes at 300 bit/s: 32.7
two_windows_at_300 : timer 10 (Some 300) 980 ≡ 43
two_windows_at_300 = refl

-- 120 bytes are a second at 1,200 bit/s, and not more
a_whole_second : timer 10 (Some 1200) 120 ≡ 11
a_whole_second = refl

-- nothing is on the way
nothing_on_the_way : timer 10 (Some 1200) 0 ≡ 10
nothing_on_the_way = refl

-- no speed is told
no_speed : timer 10 None 57428 ≡ 10
no_speed = refl
