-- The addresses of the two buses, of seven bits.
use Rattle.std.specs.Prelude.{ℕ, ◌≤◌}
use Rattle.mctp_i2c.specs.declared.TheConstants.{MIN_SMBUS_ADDRESS, MAX_SMBUS_ADDRESS, MAX_DYNAMIC_ADDRESS}

-- none of those that SMBus and I2C reserve
abbrev pub IsSmbusAddress : ℕ → Type 0
IsSmbusAddress n = (MIN_SMBUS_ADDRESS ≤ n) × (n ≤ MAX_SMBUS_ADDRESS)

abbrev pub IsDynamicAddress : ℕ → Type 0
IsDynamicAddress n = n ≤ MAX_DYNAMIC_ADDRESS
