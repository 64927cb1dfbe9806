-- `property_value::read_value` is right form by form: what the leaf of the form reads is the value. Assumes nothing.
use mathlib.Core.Path.{refl}
use Rattle.property_value.proofs.Laws.{of_u8, of_u16, of_u32, of_number, of_text, of_bytes, found, refused}
use Rattle.property_value.proofs.read_value.Goals as goal

pub returns-in-Ok : goal.returns-in-Ok
returns-in-Ok c = rw c.in-U8.is (found (of_u8 _) (rw c.in-Ok.is at c.read_u8.ensures) refl refl)

pub returns-in-Err : goal.returns-in-Err
returns-in-Err c = rw c.in-U8.is (refused (of_u8 _) (rw c.in-Err.is at c.read_u8.ensures))

pub returns-in-Ok-read_u16 : goal.returns-in-Ok-read_u16
returns-in-Ok-read_u16 c = rw c.in-U16.is (found (of_u16 _) (rw c.in-Ok-read_u16.is at c.read_u16.ensures) refl refl)

pub returns-in-Err-read_u16 : goal.returns-in-Err-read_u16
returns-in-Err-read_u16 c = rw c.in-U16.is (refused (of_u16 _) (rw c.in-Err-read_u16.is at c.read_u16.ensures))

pub returns-in-Ok-read_u32 : goal.returns-in-Ok-read_u32
returns-in-Ok-read_u32 c = rw c.in-U32.is (found (of_u32 _) (rw c.in-Ok-read_u32.is at c.read_u32.ensures) refl refl)

pub returns-in-Err-read_u32 : goal.returns-in-Err-read_u32
returns-in-Err-read_u32 c = rw c.in-U32.is (refused (of_u32 _) (rw c.in-Err-read_u32.is at c.read_u32.ensures))

pub returns-in-Ok-read_identifier : goal.returns-in-Ok-read_identifier
returns-in-Ok-read_identifier c = rw c.in-Number.is (found (of_number _) (rw c.in-Ok-read_identifier.is at c.read_identifier.ensures) refl refl)

pub returns-in-Err-read_identifier : goal.returns-in-Err-read_identifier
returns-in-Err-read_identifier c = rw c.in-Number.is (refused (of_number _) (rw c.in-Err-read_identifier.is at c.read_identifier.ensures))

pub returns-in-Ok-read_mqtt_string : goal.returns-in-Ok-read_mqtt_string
returns-in-Ok-read_mqtt_string c = rw c.in-Text.is (found (of_text _) (rw c.in-Ok-read_mqtt_string.is at c.read_mqtt_string.ensures) refl refl)

pub returns-in-Err-read_mqtt_string : goal.returns-in-Err-read_mqtt_string
returns-in-Err-read_mqtt_string c = rw c.in-Text.is (refused (of_text _) (rw c.in-Err-read_mqtt_string.is at c.read_mqtt_string.ensures))

pub returns-in-Ok-read_mqtt_bytes : goal.returns-in-Ok-read_mqtt_bytes
returns-in-Ok-read_mqtt_bytes c = rw c.in-Bytes.is (found (of_bytes _) (rw c.in-Ok-read_mqtt_bytes.is at c.read_mqtt_bytes.ensures) refl refl)

pub returns-in-Err-read_mqtt_bytes : goal.returns-in-Err-read_mqtt_bytes
returns-in-Err-read_mqtt_bytes c = rw c.in-Bytes.is (refused (of_bytes _) (rw c.in-Err-read_mqtt_bytes.is at c.read_mqtt_bytes.ensures))
