-- The promises: worked values; demand 1 (Only, Refused, Places), demand 2 (Packets, Words, Reserved, Opening, Sent, History, Unbroken, Private) and demand 3
-- (Line, with a line worked out, and Looked, the record shown); what is printed; and what a check is worth (Checking).
pub mod Values
pub mod Only
pub mod Calls
pub mod PacketCalls
pub mod Packets
pub mod Words
pub mod Reserved
pub mod Checking
pub mod Refused
pub mod Placed
pub mod Places
pub mod Opening
pub mod Sent
pub mod History
pub mod Unbroken
pub mod Private
pub mod Arrival
pub mod Line
pub mod Looked
pub mod Worked
pub mod Printed
