-- Results of arithmetic on words of 64 and of 32 bits, as sums, products, quotients and remainders
-- (RFC 9669, sections 4.1 and 4.2). The width b is 64 or 32.
-- Wrapping of the least number divided by -1 is this project's own reading.
use Rattle.std.specs.Prelude.{ℕ, ◌+◌, ◌-◌, ◌*◌, ◌/◌, ◌%◌, ◌^◌, Bool, nat_lt, nat_le, bit_and, bit_or, bit_xor, ◌==◌}
use Rattle.std.specs.Prelude.{not, if◌then◌else◌}
use Rattle.bpf_insn.specs.declared.opcodes.TheConstants.{ADD, SUB, MUL, DIV, OR, AND, LSH, RSH, NEG, MOD, XOR, MOV, JEQ}
use Rattle.bpf_insn.specs.declared.opcodes.TheConstants.{JGT, JGE, JSET, JNE, JSGT, JSGE, JLT, JLE, JSLT, END_LE}
use Rattle.std.specs.Int.{w16, w32, w64, swap_bytes}

-- the low bits of a number
abbrev pub low : ℕ → ℕ → ℕ
low b n = n % 2 ^ b

-- the low b bits of a number, read with their sign and written with c bits, c at least b
abbrev pub extended : ℕ → ℕ → ℕ → ℕ
extended b c n = if nat_lt (low b n) (2 ^ (b - 1)) then low b n else low b n + (2 ^ c - 2 ^ b)

-- a number of b bits, read with its sign, is negative; and its absolute value
abbrev pub is_negative : ℕ → ℕ → Bool
is_negative b n = nat_le (2 ^ (b - 1)) n

abbrev pub magnitude : ℕ → ℕ → ℕ
magnitude b n = if is_negative b n then 2 ^ b - n else n

-- the number with the other sign
abbrev pub negated : ℕ → ℕ → ℕ
negated b n = (2 ^ b - n) % 2 ^ b

-- an absolute value with a sign
abbrev pub signed_as : ℕ → Bool → ℕ → ℕ
signed_as b minus n = if minus then negated b n else n % 2 ^ b

-- quotients round toward zero; one by 0 is 0, and a remainder by 0 is the dividend
abbrev pub quotient : ℕ → ℕ → ℕ
quotient x y = if y == 0 then 0 else x / y

abbrev pub remainder : ℕ → ℕ → ℕ
remainder x y = if y == 0 then x else x % y

abbrev pub signed_quotient : ℕ → ℕ → ℕ → ℕ
signed_quotient b x y =
    if y == 0 then 0
    else
    signed_as b (if is_negative b x then not (is_negative b y) else is_negative b y)
    (magnitude b x / magnitude b y)

abbrev pub signed_remainder : ℕ → ℕ → ℕ → ℕ
signed_remainder b x y = if y == 0 then x else signed_as b (is_negative b x) (magnitude b x % magnitude b y)

-- the arithmetic shift keeps the sign: of a negative number, the difference from the greatest number is shifted
abbrev pub shifted_signed : ℕ → ℕ → ℕ → ℕ
shifted_signed b x k = if is_negative b x then 2 ^ b - 1 - (2 ^ b - 1 - x) / 2 ^ k else x / 2 ^ k

-- MOV, which extends the low 8, 16 or 32 bits by their sign if its offset is 8, 16 or 32
abbrev pub moved : ℕ → ℕ → ℕ → ℕ
moved b offset y =
    if offset == 8 then extended 8 b y
    else if offset == 16 then extended 16 b y
    else if offset == 32 then extended 32 b y
    else y

-- the result of an operation on two numbers of b bits; offset 1 makes DIV and MOD signed; the last operation is ARSH
unfoldable pub result_of : ℕ → ℕ → ℕ → ℕ → ℕ → ℕ
result_of b operation offset x y =
    if operation == ADD then (x + y) % 2 ^ b
    else if operation == SUB then (x + (2 ^ b - y)) % 2 ^ b
    else if operation == MUL then (x * y) % 2 ^ b
    else if operation == DIV then (if offset == 1 then signed_quotient b x y else quotient x y)
    else if operation == OR then bit_or x y
    else if operation == AND then bit_and x y
    else if operation == LSH then (x * 2 ^ (y % b)) % 2 ^ b
    else if operation == RSH then x / 2 ^ (y % b)
    else if operation == NEG then negated b x
    else if operation == MOD then (if offset == 1 then signed_remainder b x y else remainder x y)
    else if operation == XOR then bit_xor x y
    else if operation == MOV then moved b offset y
    else shifted_signed b x (y % b)

-- the order of numbers with their signs: with half of the range added it is the plain one
abbrev pub is_below : ℕ → ℕ → ℕ → Bool
is_below b x y = nat_lt ((x + 2 ^ (b - 1)) % 2 ^ b) ((y + 2 ^ (b - 1)) % 2 ^ b)

-- whether the comparison of a conditional jump holds for two numbers of b bits (section 4.3); the last one is JSLE
unfoldable pub comparison_holds : ℕ → ℕ → ℕ → ℕ → Bool
comparison_holds b operation x y =
    if operation == JEQ then x == y
    else if operation == JGT then nat_lt y x
    else if operation == JGE then nat_le y x
    else if operation == JSET then not (bit_and x y == 0)
    else if operation == JNE then not (x == y)
    else if operation == JSGT then is_below b y x
    else if operation == JSGE then not (is_below b x y)
    else if operation == JLT then nat_lt x y
    else if operation == JLE then nat_le x y
    else if operation == JSLT then is_below b x y
    else not (is_below b y x)

-- the low n bits, n 16, 32 or 64
abbrev pub low_bits : ℕ → ℕ → ℕ
low_bits n x = if n == 16 then low 16 x else if n == 32 then low 32 x else low 64 x

-- the low n bits with their octets in the other order
abbrev pub swapped_octets : ℕ → ℕ → ℕ
swapped_octets n x =
    if n == 16 then swap_bytes w16 (low 16 x)
    else if n == 32 then swap_bytes w32 (low 32 x)
    else swap_bytes w64 (low 64 x)

-- conversions: to little-endian, which is the order here, to big-endian, and to the other order (section 4.2)
unfoldable pub converted : ℕ → ℕ → ℕ → ℕ
converted opcode n x = if opcode == END_LE then low_bits n x else swapped_octets n x
