-- Blocks and saves of P11 worked out: the blocks were made from 02's words with Python's struct and zlib. A slip that definition and code share is
-- refused here. Assumes nothing.
use mathlib.Core.Path.{◌≡◌, refl}
use mathlib.Core.Bool.{Bool, true, false}
use mathlib.Core.List.{List, [], ◌∷◌, ◌++◌, map}
use Prim.Native.Nat.{ℕ, ◌+◌, ◌-◌, ◌^◌}
use lib.ListN.{replicate}
use Rattle.crc32.specs.Crc.{crc_of, bytes_in, byte_in, shifts, shift}
use Rattle.journal.specs.Block.{each, bytes_of, big_endian_from, all_zero, packed_at, body_of, block_of, number_of, wait_in, table_in, good}
use Rattle.journal.specs.Area.{whole, blocks, newer, latest, latest_in, highest, save, save_after, stored, saved, journal_ended}

-- identifiers 1, 2, 3 and 5 wait for PubAck, PubRec, PubComp and PubComp, identifier 1,024 for PubRec
abbrev table : List ℕ
table = 1 ∷ 2 ∷ 3 ∷ 0 ∷ 3 ∷ (replicate 1018 0 ++ (2 ∷ []))

-- the number 0102030405060708 hex in front of s
abbrev numbered : List ℕ → List ℕ
numbered s = 1 ∷ 2 ∷ 3 ∷ 4 ∷ 5 ∷ 6 ∷ 7 ∷ 8 ∷ s

-- its block: number, marks, zeros, check
abbrev block : List ℕ → List ℕ
block check = numbered (0x39 ∷ 3 ∷ (replicate 253 0 ++ (0x80 ∷ (replicate 244 0 ++ check))))

abbrev bytes : List ℕ
bytes = block (0x23 ∷ 0xDD ∷ 0xE5 ∷ 0xF2 ∷ [])

-- "Bytes 0 to 7 ..; 8 to 263 ..; 264 to 507 ..; 508 to 511"
pub stored_bytes : block_of 0x0102030405060708 table ≡ bytes
unfolding block_of body_of bytes_of packed_at each crc_of bytes_in byte_in shifts shift
stored_bytes = refl

-- read back
pub read_bytes : (number_of bytes ≡ 0x0102030405060708) × (table_in 1024 bytes ≡ table)
unfolding number_of big_endian_from table_in wait_in each
read_bytes = (refl, refl)

-- "A block is good if its check and zero bytes are right, its number is not 0, and no identifier above the limit is marked": as stored; its check off
-- by one; byte 264, byte 507 not zero, and the check right; number 0; identifier 129 marked, under either limit
pub which_good : ◌≡◌ {A = List Bool}
    (good 1024 bytes
    ∷ good 1024 (block (0x23 ∷ 0xDD ∷ 0xE5 ∷ 0xF3 ∷ []))
    ∷ good 1024 (numbered (replicate 256 0 ++ (1 ∷ (replicate 243 0 ++ (0xD2 ∷ 0x3B ∷ 0x09 ∷ 0x07 ∷ [])))))
    ∷ good 1024 (numbered (replicate 499 0 ++ (1 ∷ 0x82 ∷ 0xEC ∷ 0x7D ∷ 0xAD ∷ [])))
    ∷ good 1024 (replicate 508 0 ++ (0x0F ∷ 0xBB ∷ 0x6D ∷ 0x54 ∷ []))
    ∷ good 1024 (numbered (replicate 32 0 ++ (1 ∷ (replicate 467 0 ++ (0x57 ∷ 0xA7 ∷ 0xF8 ∷ 0x66 ∷ [])))))
    ∷ good 128 (numbered (replicate 32 0 ++ (1 ∷ (replicate 467 0 ++ (0x57 ∷ 0xA7 ∷ 0xF8 ∷ 0x66 ∷ [])))))
    ∷ [])
    (true ∷ false ∷ false ∷ false ∷ false ∷ true ∷ false ∷ [])
unfolding good all_zero number_of big_endian_from wait_in each crc_of bytes_in byte_in shifts shift
which_good = refl

-- "first 1"; "the number after the highest good one, and number N goes to block (N - 1) mod the count of blocks, from 0"; up to "the largest 64-bit
-- number": on a started area, on one whose second block is the one above, and on those that end with the last number but one, and with the last
pub which_save : map (λ (a : List ℕ). (save 1024 table a).says)
    (replicate 1024 0
    ∷ (replicate 512 0 ++ bytes)
    ∷ (replicate 512 0 ++ block_of (2 ^ 64 - 2) table)
    ∷ (block_of (2 ^ 64 - 1) table ++ replicate 512 0)
    ∷ [])
    ≡ (saved 1 0 ∷ saved 0x0102030405060709 0 ∷ saved (2 ^ 64 - 1) 0 ∷ journal_ended ∷ [])
unfolding map save whole latest_in latest blocks newer highest save_after stored good all_zero number_of big_endian_from wait_in block_of body_of bytes_of packed_at each crc_of bytes_in byte_in shifts shift
which_save = refl
