mod Placeholders
